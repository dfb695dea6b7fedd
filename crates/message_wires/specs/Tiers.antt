-- A worked run of two tiers: a terminal asks a front, which asks the adder, and both are lost together with their
-- processor. Its rounds go on until nothing is left to do.
use Rattle.std.specs.Prelude.{ℕ, zero, suc, pos, Bool, false, List, [], ◌∷◌, ◌++◌, codes, length, map, replicate}
use Rattle.tal_tree.specs.gd_words.specs.declared.limits.TheConstants.{TERMINAL_NODE}
use Rattle.tal_tree.specs.Rows.{places, rows}
use Rattle.tal_tree.specs.declared.expression.Expr.{Number}
use Rattle.tal_tree.specs.declared.expression.Cond.{Truth}
use Rattle.tal_tree.specs.declared.expression.Variable.TheVariants as variable
use Rattle.tal_tree.specs.declared.program.Program.{Program}
use Rattle.tal_tree.specs.declared.program.Shape.TheVariants as shape
use Rattle.tal_tree.specs.declared.program.Target.TheVariants as target
use Rattle.tal_tree.specs.declared.statement.Statement.{Statement}
use Rattle.tal_tree.specs.declared.statement.What as what
use Rattle.tal_tree.specs.declared.site.Site.{Site}
use Rattle.tal_tree.specs.declared.site.Kind.TheVariants as kind
use Rattle.schedule.specs.declared.event.Event.{Event}
use Rattle.schedule.specs.declared.event.Event.TheVariants as event
use Rattle.computed_changes.specs.process_semantics.specs.Process as process
use Rattle.computed_changes.specs.world_semantics.specs.Examples.{adder, delivery, line}
use Rattle.message_wires.specs.Examples.{end_of}
use Rattle.message_wires.specs.Play.{MachineState, machine_at_boot}

-- takes a request, checkpoints, asks the adder the same, and answers what it answers
abbrev pub fronting : List Statement
fronting =
    line 5 (what.ReadUpdate 3 (Number (pos 1)) (variable.Simple 0))
    ∷ line 6 (what.Checkpoint (0 ∷ 3 ∷ []) (1 ∷ []))
    ∷ line 7 (what.WriteRead 1 3 (Number (pos 1)) (Number (pos 1)) (variable.Simple 0))
    ∷ line 8 (what.Reply 3 (Number (pos 1)))
    ∷ []

abbrev pub front : Program
front = record {
  items =
      record { name = codes "GOT"; shape = shape.Simple }
      ∷ record { name = codes "RCV"; shape = shape.File 0 }
      ∷ record { name = codes "SRV"; shape = shape.File 1 }
      ∷ record { name = codes "BUF"; shape = shape.Array (pos 0) (pos 0) }
      ∷ [];
  files = record { item = 1; target = target.Receive; depth = 1 }
      ∷ record { item = 2; target = target.Process (codes "$ADD"); depth = 1 } ∷ [];
  procedures =
      record {
        name = codes "FRONT";
        gives = false;
        parameters = 0;
        locals = [];
        body =
            line 1 what.CheckMonitor ∷ line 2 (what.Open 0) ∷ line 3 (what.Open 1)
            ∷ line 4 (what.While' (Truth (Number (pos 1))) (places fronting) (rows fronting)) ∷ [];
      }
      ∷ [];
  main = 0;
}

-- both tiers in the processors 0 and 1, and a terminal that sends 5 and then 7 to the front
abbrev pub tiers : Site
tiers = record {
  processors = 2;
  processes =
      record { name = codes "$ADD"; primary = 0; backup = 1; what = kind.Pair adder }
      ∷ record { name = codes "$FRONT"; primary = 0; backup = 1; what = kind.Pair front }
      ∷ [];
  terminals = record { name = codes "$T"; target = 1; requests = (pos 5 ∷ []) ∷ (pos 7 ∷ []) ∷ [] } ∷ [];
}

abbrev pub acted : List Event
acted = event.Enter 0 ∷ event.Run 0 ∷ event.Run 1 ∷ []

-- a round: the terminal enters, each process runs once, as many packets are delivered as are on the bus then, and each
-- node ticks
abbrev pub round : MachineState → List Event
round s =
    acted ++ replicate (length (end_of s acted).wires.bus) delivery ++ event.Tick 0 ∷ event.Tick 1
    ∷ event.Tick TERMINAL_NODE
    ∷ []

-- so many rounds
abbrev pub rounds : ℕ → MachineState → List Event
rounds zero s = []
rounds (suc more) s = round s ++ rounds more (end_of s (round s))

abbrev pub after_rounds : ℕ → MachineState → MachineState
after_rounds many s = end_of s (rounds many s)

-- the state in which processor 0 is to stop, and the one after it stopped
abbrev pub before_stop : ℕ → MachineState
before_stop many = after_rounds many (machine_at_boot tiers)

abbrev pub stopped_after : ℕ → MachineState
stopped_after many = end_of (before_stop many) (event.Fail 0 ∷ [])

-- whether each process has a request in hand at its first copy
abbrev pub in_hand : MachineState → List Bool
in_hand s = map (λ pair. process.in_hand pair.first.core.state) s.world.processes
