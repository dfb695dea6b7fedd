-- Worked examples: small sites, and the events of runs of them. Trees stand with their rows, as definitions match them.
use Rattle.std.specs.Prelude.{◌≡◌, ℕ, ℤ, pos, false, List, [], ◌∷◌, codes, map}
use Rattle.checkpoint_image.specs.tal_tree.specs.Rows.{places, rows}
use Rattle.checkpoint_image.specs.tal_tree.specs.declared.act.Act.{Act}
use Rattle.checkpoint_image.specs.tal_tree.specs.declared.act.Act.TheVariants as act
use Rattle.checkpoint_image.specs.tal_tree.specs.declared.act.Shown.{Shown}
use Rattle.checkpoint_image.specs.tal_tree.specs.declared.act.Shown.TheVariants as shown
use Rattle.checkpoint_image.specs.tal_tree.specs.declared.expression.Expr.{Expr, Number, Read', Two', more_of-Spot}
use Rattle.checkpoint_image.specs.tal_tree.specs.declared.expression.Expr.{end_of-Spot, more_of-Expr}
use Rattle.checkpoint_image.specs.tal_tree.specs.declared.expression.Expr.{end_of-Expr}
use Rattle.checkpoint_image.specs.tal_tree.specs.declared.expression.Op.TheVariants.{Add}
use Rattle.checkpoint_image.specs.tal_tree.specs.declared.expression.Cond.{Truth}
use Rattle.checkpoint_image.specs.tal_tree.specs.declared.expression.Spot.{Spot}
use Rattle.checkpoint_image.specs.tal_tree.specs.declared.expression.Spot as spot
use Rattle.checkpoint_image.specs.tal_tree.specs.declared.expression.Variable.TheVariants as variable
use Rattle.checkpoint_image.specs.tal_tree.specs.declared.program.Program.{Program}
use Rattle.checkpoint_image.specs.tal_tree.specs.declared.program.Shape.TheVariants as shape
use Rattle.checkpoint_image.specs.tal_tree.specs.declared.program.Target.TheVariants as target
use Rattle.checkpoint_image.specs.tal_tree.specs.declared.statement.Statement.{Statement}
use Rattle.checkpoint_image.specs.tal_tree.specs.declared.statement.What as what
use Rattle.checkpoint_image.specs.tal_tree.specs.declared.site.Site.{Site}
use Rattle.checkpoint_image.specs.tal_tree.specs.declared.site.Kind.TheVariants as kind
use Rattle.schedule.specs.declared.bus_name.BusName.TheVariants as bus
use Rattle.schedule.specs.declared.event.Event.{Event}
use Rattle.schedule.specs.declared.event.Event.TheVariants as event
use Rattle.checkpoint_image.specs.declared.receive.RequestStanding.{RequestStanding}
use Rattle.world_semantics.specs.declared.role.Role.{Role}
use Rattle.checkpoint_image.specs.Receive.{request_standing}
use Rattle.world_semantics.specs.World.{Copy, World}
use Rattle.world_semantics.specs.Shares.{closed}
use Rattle.world_semantics.specs.Follows.{IsRun}

abbrev pub read : Spot → Expr
read at = Read' tt (more_of-Spot at end_of-Spot)

abbrev pub sum_of : Expr → Expr → Expr
sum_of left right = Two' Add tt (more_of-Expr left end_of-Expr) tt (more_of-Expr right end_of-Expr)

abbrev pub line : ℕ → what.What → Statement
line number what = record { number = number; line = number; what = what }

abbrev pub total : Spot
total = spot.Simple 0

abbrev pub first_of_buf : Spot
first_of_buf = spot.Element 3 (Number (pos 0))

-- takes a request, adds its word to the total, checkpoints, and answers the total
abbrev pub adding : List Statement
adding =
    line 4 (what.ReadUpdate 3 (Number (pos 1)) (variable.Simple 1))
    ∷ line 5 (what.Assign total (sum_of (read total) (read first_of_buf)))
    ∷ line 6 (what.Assign first_of_buf (read total))
    ∷ line 7 (what.Checkpoint (0 ∷ 1 ∷ 3 ∷ []) [])
    ∷ line 8 (what.Reply 3 (Number (pos 1)))
    ∷ []

-- a program that serves by these statements: its total, the count that it got, `$RECEIVE`, and a buffer of one word
abbrev pub server : List Statement → Program
server serving = record {
  items =
      record { name = codes "TOTAL"; shape = shape.Simple }
      ∷ record { name = codes "GOT"; shape = shape.Simple }
      ∷ record { name = codes "RCV"; shape = shape.File 0 }
      ∷ record { name = codes "BUF"; shape = shape.Array (pos 0) (pos 0) }
      ∷ [];
  files = record { item = 2; target = target.Receive; depth = 1 } ∷ [];
  procedures =
      record {
        name = codes "ADD";
        gives = false;
        parameters = 0;
        locals = [];
        body = line 1 what.CheckMonitor ∷ line 2 (what.Open 0)
            ∷ line 3 (what.While' (Truth (Number (pos 1))) (places serving) (rows serving)) ∷ [];
      }
      ∷ [];
  main = 0;
}

abbrev pub adder : Program
adder = server adding

-- the adder as a pair in the processors 0 and 1, and terminals that send one word each
abbrev pub adder_for : List ℤ → Site
adder_for words = record {
  processors = 2;
  processes = record { name = codes "$ADD"; primary = 0; backup = 1; what = kind.Pair adder } ∷ [];
  terminals = map (λ word. record { name = codes "$T"; target = 0; requests = (word ∷ []) ∷ [] }) words;
}

abbrev pub reply : ℕ → ℤ → Shown
reply terminal word = shown.Reply terminal 1 (word ∷ [])

abbrev pub delivery : Event
delivery = event.Deliver bus.X 0

abbrev pub run : Event
run = event.Run 0

-- The takeover: a request of 5 is entered, the program comes to READUPDATE, and the request is delivered to both
-- copies. The first one takes it, adds it, and sends its checkpoint, which is delivered, as is that it was taken. It
-- passes its checkpoint and answers, and its processor stops. Both nodes that run mark it, and the second copy takes
-- over. It answers anew, the request comes once more, and its reply, which is sent again, is printed

-- the events of the takeover
abbrev pub takeover_events : List Event
takeover_events =
    event.Enter 0 ∷ run ∷ run ∷ run ∷ delivery ∷ delivery ∷ run ∷ run ∷ run ∷ run ∷ delivery ∷ delivery ∷ run ∷ run
    ∷ event.Fail 0 ∷ event.Tick 1
    ∷ event.Tick 16 ∷ run ∷ delivery ∷ delivery ∷ run ∷ []

-- what the takeover keeps: the acts of one process that doesn't fail
abbrev pub takeover_acts : List Act
takeover_acts =
    act.Enter 0 ∷ act.Step 0 ∷ act.Step 0 ∷ act.Step 0 ∷ act.Take 0 0 ∷ act.Step 0 ∷ act.Step 0 ∷ act.Step 0
    ∷ act.Step 0 ∷ act.Print 0
    ∷ act.Step 0 ∷ []

-- what it shows
abbrev pub takeover_shown : List Shown
takeover_shown = reply 0 (pos 5) ∷ []

-- The lost take: requests of 5 and 7 are entered. The first copy takes that of 5, adds it, and is lost with its
-- processor before it sent a checkpoint. The second copy takes over at the beginning, and takes that of 7 first, which
-- it answers by 7

-- the events of the lost take
abbrev pub lost_take_events : List Event
lost_take_events =
    event.Enter 0 ∷ event.Enter 1 ∷ run ∷ run ∷ run ∷ delivery ∷ run ∷ run ∷ event.Fail 0 ∷ event.Tick 1 ∷ delivery
    ∷ run ∷ run ∷ run ∷ run ∷ run ∷ run
    ∷ run ∷ run ∷ delivery ∷ []

-- what the lost take keeps: nothing of the take that was lost, and the first steps once
abbrev pub lost_take_acts : List Act
lost_take_acts =
    act.Enter 0 ∷ act.Enter 1 ∷ act.Step 0 ∷ act.Step 0 ∷ act.Step 0 ∷ act.Take 0 1 ∷ act.Step 0 ∷ act.Step 0
    ∷ act.Step 0 ∷ act.Step 0
    ∷ act.Print 1 ∷ []

-- what it shows
abbrev pub lost_take_shown : List Shown
lost_take_shown = reply 1 (pos 7) ∷ []

-- The write that is done: a disc is asked to write 5 to its sector 0. The first copy takes the request, its checkpoint
-- is delivered, and it writes. Its processor stops, and the second copy, behind the checkpoint, finds the number of its
-- write on the sector, and answers

-- a disc of four sectors in the processors 0 and 1, and a terminal that asks it to write
abbrev pub disc_site : Site
disc_site = record {
  processors = 2;
  processes = record { name = codes "$DATA"; primary = 0; backup = 1; what = kind.Disc 4 false } ∷ [];
  terminals = record { name = codes "$T"; target = 0; requests = (pos 2 ∷ pos 0 ∷ pos 5 ∷ []) ∷ [] } ∷ [];
}

-- the events of the write that is done
abbrev pub disc_events : List Event
disc_events = event.Enter 0 ∷ delivery ∷ run ∷ run ∷ delivery ∷ delivery ∷ run ∷ run ∷ event.Fail 0 ∷ event.Tick 1
    ∷ run ∷ run ∷ delivery ∷ []

-- what the write that is done keeps
abbrev pub disc_acts : List Act
disc_acts = act.Enter 0 ∷ act.Take 0 0 ∷ act.Step 0 ∷ act.Step 0 ∷ act.Step 0 ∷ act.Print 0 ∷ []

-- what it shows, the newest first: the write, once, and the reply to it
abbrev pub disc_shown : List Shown
disc_shown = reply 0 (pos 0) ∷ shown.Write 0 0 (pos 5 ∷ pos 0 ∷ pos 0 ∷ pos 0 ∷ pos 0 ∷ pos 0 ∷ pos 0 ∷ pos 0 ∷ []) ∷ []

-- The repeated request: a bank adds what it is sent, checkpoints, writes the total to a disc, and answers. Its first
-- copy is lost while it awaits the disc, which has written and answered. The second copy takes over and asks again; the
-- disc, which keeps its reply, sends it again

-- the three words that ask the disc to write the total to its sector 0
abbrev pub out : ℕ → Spot
out n = spot.Element 5 (Number (pos n))

abbrev pub banking : List Statement
banking =
    line 5 (what.ReadUpdate 4 (Number (pos 1)) (variable.Simple 1))
    ∷ line 6 (what.Assign total (sum_of (read total) (read (spot.Element 4 (Number (pos 0))))))
    ∷ line 7 (what.Checkpoint (4 ∷ 5 ∷ 1 ∷ 0 ∷ []) (1 ∷ []))
    ∷ line 8 (what.Assign (out 0) (Number (pos 2)))
    ∷ line 9 (what.Assign (out 1) (Number (pos 0)))
    ∷ line 10 (what.Assign (out 2) (read total))
    ∷ line 11 (what.WriteRead 1 5 (Number (pos 3)) (Number (pos 1)) (variable.Simple 1))
    ∷ line 12 (what.Assign (spot.Element 4 (Number (pos 0))) (read total))
    ∷ line 13 (what.Reply 4 (Number (pos 1)))
    ∷ []

abbrev pub bank : Program
bank = record {
  items =
      record { name = codes "TOTAL"; shape = shape.Simple }
      ∷ record { name = codes "GOT"; shape = shape.Simple }
      ∷ record { name = codes "RCV"; shape = shape.File 0 }
      ∷ record { name = codes "DISK"; shape = shape.File 1 }
      ∷ record { name = codes "BUF"; shape = shape.Array (pos 0) (pos 0) }
      ∷ record { name = codes "OUT"; shape = shape.Array (pos 0) (pos 2) }
      ∷ [];
  files = record { item = 2; target = target.Receive; depth = 1 }
      ∷ record { item = 3; target = target.Process (codes "$DATA"); depth = 1 } ∷ [];
  procedures =
      record {
        name = codes "BANK";
        gives = false;
        parameters = 0;
        locals = [];
        body =
            line 1 what.CheckMonitor ∷ line 2 (what.Open 0) ∷ line 3 (what.Open 1)
            ∷ line 4 (what.While' (Truth (Number (pos 1))) (places banking) (rows banking)) ∷ [];
      }
      ∷ [];
  main = 0;
}

-- the disc in the processors 2 and 3, the bank in the processors 0 and 1, and a terminal that sends 5 to the bank
abbrev pub bank_site : Site
bank_site = record {
  processors = 4;
  processes =
      record { name = codes "$DATA"; primary = 2; backup = 3; what = kind.Disc 4 false }
      ∷ record { name = codes "$BANK"; primary = 0; backup = 1; what = kind.Pair bank }
      ∷ [];
  terminals = record { name = codes "$T"; target = 1; requests = (pos 5 ∷ []) ∷ [] } ∷ [];
}

abbrev pub banks : Event
banks = event.Run 1

-- the events of the repeated request
abbrev pub repeat_events : List Event
repeat_events =
    event.Enter 0 ∷ banks ∷ banks ∷ banks ∷ banks ∷ delivery ∷ banks ∷ banks ∷ banks ∷ delivery ∷ delivery ∷ banks
    ∷ banks ∷ banks ∷ banks ∷ banks
    ∷ delivery ∷ run ∷ run ∷ delivery ∷ delivery ∷ run ∷ run ∷ run ∷ event.Fail 0 ∷ event.Tick 1 ∷ banks ∷ banks
    ∷ banks ∷ banks ∷ delivery ∷ delivery
    ∷ banks ∷ banks ∷ delivery ∷ banks ∷ []

-- what the repeated request keeps: what was done before the stop once
abbrev pub repeat_acts : List Act
repeat_acts =
    act.Enter 0 ∷ act.Step 1 ∷ act.Step 1 ∷ act.Step 1 ∷ act.Step 1 ∷ act.Take 1 0 ∷ act.Step 1 ∷ act.Step 1
    ∷ act.Step 1 ∷ act.Step 1 ∷ act.Step 1
    ∷ act.Step 1 ∷ act.Take 0 0 ∷ act.Step 0 ∷ act.Step 0 ∷ act.Step 0 ∷ act.Step 1 ∷ act.Step 1 ∷ act.Step 1
    ∷ act.Print 0 ∷ act.Step 1 ∷ []

-- what it shows, the newest first
abbrev pub repeat_shown : List Shown
repeat_shown =
    reply 0 (pos 5) ∷ shown.Write 0 0 (pos 5 ∷ pos 0 ∷ pos 0 ∷ pos 0 ∷ pos 0 ∷ pos 0 ∷ pos 0 ∷ pos 0 ∷ []) ∷ []

-- The request ahead: an echo takes a request and answers it with no checkpoint between. Its first copy is lost when the
-- reply to the first request is printed and the second request entered. The second copy takes over at the beginning,
-- where the first request is the next one, and the second comes

abbrev pub echoing : List Statement
echoing = line 4 (what.ReadUpdate 3 (Number (pos 1)) (variable.Simple 1)) ∷ line 5 (what.Reply 3 (Number (pos 1))) ∷ []

-- the echo in the processors 0 and 1, and a terminal that sends 5 and then 7
abbrev pub echo_site : Site
echo_site = record {
  processors = 2;
  processes = record { name = codes "$ECHO"; primary = 0; backup = 1; what = kind.Pair (server echoing) } ∷ [];
  terminals = record { name = codes "$T"; target = 0; requests = (pos 5 ∷ []) ∷ (pos 7 ∷ []) ∷ [] } ∷ [];
}

-- the events of the request ahead
abbrev pub ahead_events : List Event
ahead_events =
    event.Enter 0 ∷ run ∷ run ∷ run ∷ delivery ∷ run ∷ run ∷ delivery ∷ event.Enter 0 ∷ event.Fail 0 ∷ event.Tick 1
    ∷ delivery ∷ []

-- what the request ahead keeps: that a reply was printed to a request which nothing took
abbrev pub ahead_acts : List Act
ahead_acts = act.Enter 0 ∷ act.Step 0 ∷ act.Step 0 ∷ act.Step 0 ∷ act.Print 0 ∷ act.Enter 0 ∷ []

-- how what waits at a copy stands to it
abbrev pub standings : Copy → List RequestStanding
standings copy = map (request_standing copy.core.receive) copy.waiting

-- a run of these events can keep these acts, the oldest first, and shows this, the newest first
abbrev pub CanKeep : Site → List Event → List Act → List Shown → Type 0
CanKeep site events acts shown = (w : World) × IsRun site events w × (closed w ≡ acts) × (w.shown ≡ shown)

-- a run of these events can keep these acts, the oldest first, and leave the second copies of the processes in these
-- roles, with what waits at them standing so
abbrev pub CanLeave : Site → List Event → List Act → List Role → List (List RequestStanding) → Type 0
CanLeave site events acts roles waits =
    (w : World) × IsRun site events w × (closed w ≡ acts) × (map (λ pair. pair.second.role) w.processes ≡ roles)
    × (map (λ pair. standings pair.second) w.processes ≡ waits)

-- The reload: as in the takeover, the adder's first copy is lost when it has answered. The second one takes over;
-- before it does anything the first processor is loaded again, and the copy there gets everything. Then the second
-- processor stops, and the first copy takes over in its turn and answers anew

-- the events of the reload
abbrev pub reload_events : List Event
reload_events =
    event.Enter 0 ∷ run ∷ run ∷ run ∷ delivery ∷ delivery ∷ run ∷ run ∷ run ∷ run ∷ delivery ∷ delivery ∷ run ∷ run
    ∷ event.Fail 0 ∷ event.Tick 1 ∷ event.Tick 16
    ∷ event.Reload 0 ∷ run ∷ delivery ∷ delivery ∷ run ∷ event.Fail 1 ∷ event.Tick 0 ∷ event.Tick 16 ∷ run ∷ delivery
    ∷ run ∷ []

-- Everything sent between a take and its checkpoint: the adder has taken a request when its second processor stops and
-- is loaded again. What it sends then keeps the take. After its next checkpoint the first processor stops, and the
-- second copy answers

-- the events of that
abbrev pub renewal_events : List Event
renewal_events =
    event.Enter 0 ∷ run ∷ run ∷ run ∷ delivery ∷ run ∷ event.Fail 1 ∷ event.Tick 0 ∷ event.Tick 16 ∷ event.Reload 1
    ∷ run ∷ delivery ∷ delivery ∷ run ∷ run ∷ run ∷ run
    ∷ delivery ∷ delivery ∷ run ∷ event.Fail 0 ∷ event.Tick 1 ∷ event.Tick 16 ∷ run ∷ delivery ∷ run ∷ []
