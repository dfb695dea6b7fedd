use Rattle.std.proofs.Common.{◌≡◌, ◌≢◌, ◌<◌, ◌≤◌, inl, inr, ℕ, ◌+◌, zero, suc, ℤ, pos, length, true, false, List, []}
use Rattle.std.proofs.Common.{◌∷◌, Some, None, slice_get, refl, sym, subst, arith}
use Rattle.std.proofs.lemmas.Bool.{eqb-true}
use Rattle.std.specs.Int.{int_wrap}
use Rattle.gd_words.specs.declared.message.Reply.{Reply}
use Rattle.tal_tree.specs.declared.act.Act.TheVariants as act
use Rattle.tal_tree.specs.declared.act.Shown.TheVariants as shown
use Rattle.tal_tree.specs.declared.site.ProcessSpec.{ProcessSpec}
use Rattle.tal_tree.specs.declared.site.Who.{Who}
use Rattle.process_semantics.specs.declared.point.Point.TheVariants as point
use Rattle.process_semantics.specs.Process as process
use Rattle.plain_semantics.specs.Machine.{next_request}
use Rattle.whole_states.specs.Processes.{IsRegularKind}
use Rattle.awaited_requests.specs.discipline_laws.specs.Disciplined.{IsDisciplined}
use Rattle.awaited_requests.specs.discipline_laws.proofs.Discs.{disc-disciplined}
use Rattle.schedule.specs.declared.bus_name.BusName.TheVariants as bus
use Rattle.schedule.specs.declared.event.Event.TheVariants.{Run, Enter, Deliver, Tick, Fail, Reload}
use Rattle.disc_device.specs.Sectors.{stored_after}
use Rattle.checkpoint_image.specs.declared.message.ImageMessage.{ImageMessage}
use Rattle.process_histories.specs.Served.{disc, disc_site, sector_with, after_one}
use Rattle.world_semantics.specs.declared.role.Role.TheVariants.{Acting, Watching, Blank, Gone}
use Rattle.world_semantics.specs.declared.which.Which.{Which}
use Rattle.world_semantics.specs.declared.which.Which.TheVariants.{First, Second}
use Rattle.world_semantics.specs.Core.{takes, acts, answers, after_passing, core_taken}
use Rattle.world_semantics.specs.Kept.{keeps, begins}
use Rattle.world_semantics.specs.Laws.{IsPlaced}
use Rattle.world_semantics.specs.Own.{by_take, by_write, by_answer}
use Rattle.world_semantics.specs.Messages.{Replying, Checkpointing, Taking}
use Rattle.world_semantics.specs.Passes.{by_send, by_pass, by_end, by_apply, by_acknowledge, checkpoint_of, taken_of}
use Rattle.world_semantics.specs.Rules.{by_own, by_checkpoint, by_request, by_enter, by_print, by_stop, by_mark}
use Rattle.world_semantics.specs.Rules.{by_reload}
use Rattle.world_semantics.specs.Running.{run_done}
use Rattle.world_semantics.specs.World.{Pair, Terminal, boot, is_running, has_marked, copy_of}
use Rattle.world_semantics.proofs.Lists.{some-same}
use Rattle.world_semantics.proofs.Ran.{run-idle}
use Rattle.letters.specs.Posts.{Post, HasPlayed, played_none, played_more, plays_run, plays_enter, plays_hand}
use Rattle.letters.specs.Posts.{plays_tick, plays_fail, plays_reload, one_mark, no_mark, takes_first}
use Rattle.letters.proofs.Worlds.{played-run}
use Rattle.awaited_requests.specs.Awaited.{IsAwaited, by_copy, by_terminal}
use Rattle.awaited_requests.specs.Examples.{disc_pair, first_request, letter_to}
use Rattle.idle_end.specs.Examples.{two_stops}
use Rattle.idle_end.proofs.Quiet.{entering-even}
use Rattle.idle_end.proofs.guards.a_site_is_at_an_idle_end_after_two_stops.Goals as goal

-- each node that runs has marked the first processor
all-marked : (node : ℕ) → is_running (true ∷ false ∷ []) node ≡ true
    → has_marked (record { node = 16; down = 0 } ∷ record { node = 1; down = 0 } ∷ []) node 0 ≡ true
all-marked zero runs = absurd (cc)
all-marked (suc zero) runs = refl
all-marked (suc (suc node)) runs = rw (eqb-true (suc (suc node)) 16 runs) refl

-- The posts that it comes to

-- its first processor was loaded again: the copy there is blank, and the other one has to send everything
abbrev loaded_pair : Pair
loaded_pair = record disc_pair {
  first = record disc_pair.first { role = Blank; era = 2 };
  second = record disc_pair.second { role = Acting; era = 2; renewal = true };
  led = Second;
}

abbrev loaded : Post
loaded = record {
  world = record (boot disc_site) { reloads = 1 ∷ 0 ∷ []; processes = loaded_pair ∷ [] };
  owed = [];
  sent = [];
}

-- the copy there has all of it
abbrev everything : ImageMessage
everything = checkpoint_of 0 loaded_pair.second

abbrev backed_pair : Pair
backed_pair = record disc_pair {
  first = record disc_pair.first { role = Watching; era = 2; number = 1 };
  second = record disc_pair.second { role = Acting; era = 2; number = 1 };
  checkpoints = everything ∷ [];
  takens = taken_of everything ∷ [];
  led = Second;
}

abbrev backed : Post
backed = record {
  world = record loaded.world { processes = backed_pair ∷ [] };
  owed = [];
  sent = record { sender = 0; receiver = 1; message = Taking (taken_of everything) }
      ∷ record { sender = 1; receiver = 0; message = Checkpointing everything } ∷ [];
}

-- the second processor has stopped
abbrev over_pair : Pair
over_pair = record backed_pair {
  first = record disc_pair.first { role = Acting; era = 3 };
  second = record backed_pair.second { role = Gone };
}

abbrev over : Post
over = record backed {
  world = record backed.world {
    stopped = false ∷ true ∷ [];
    downs = record { node = 16; down = 1 } ∷ record { node = 0; down = 1 } ∷ [];
    processes = over_pair ∷ [];
  };
}

-- the request was entered, and waits
abbrev asked : Post
asked = record {
  world = record over.world {
    requests = first_request ∷ [];
    terminals = record { entered = 1; printed = 0 } ∷ [];
    kept = act.Enter 0 ∷ [];
    processes = record over_pair { first = record over_pair.first { waiting = first_request ∷ [] } } ∷ [];
  };
  owed = [];
  sent = letter_to 0 ∷ over.sent;
}

-- it was taken, and the checkpoint passed
abbrev taken : Post
taken = record asked {
  world = record asked.world {
    kept = act.Step 0 ∷ act.Take 0 0 ∷ act.Enter 0 ∷ [];
    processes = record over_pair {
      first = record over_pair.first {
        core = after_passing (core_taken 0 first_request.words (record { taken = 0; kept = [] }) disc_pair.first.core);
        position = 2;
      };
    } ∷ [];
  };
}

-- it was done and answered, and the reply printed
abbrev reply : Reply
reply = record { process = 0; opener = 0; number = 1; words = pos 0 ∷ [] }

abbrev last_pair : Pair
last_pair = record over_pair {
  first = record over_pair.first { core = after_one; position = 4 };
  sectors = stored_after disc_pair.sectors 1 (sector_with (pos 5)) 1;
}

abbrev last : Post
last = record asked {
  world = record asked.world {
    replies = reply ∷ [];
    terminals = record { entered = 1; printed = 1 } ∷ [];
    shown = shown.Reply 0 1 (pos 0 ∷ []) ∷ shown.Write 0 1 (sector_with (pos 5)) ∷ [];
    kept = act.Print 0 ∷ act.Step 0 ∷ act.Step 0 ∷ act.Step 0 ∷ act.Take 0 0 ∷ act.Enter 0 ∷ [];
    processes = last_pair ∷ [];
  };
  sent = record { sender = 0; receiver = 16; message = Replying reply } ∷ asked.sent;
}

-- The run

stops-first : HasPlayed disc_site (Fail 0 ∷ Tick 1 ∷ Tick 16 ∷ Reload 0 ∷ []) loaded
stops-first =
    played_more (played_more (played_more (played_more played_none
    (plays_fail (by_stop 0 refl refl)))
    (plays_tick refl (one_mark 0 (by_mark 1 0 refl refl refl) no_mark)))
    (plays_tick refl (one_mark 0 (by_mark 16 0 refl refl refl) no_mark)))
    (plays_reload (by_reload 0 refl all-marked refl (omega arith)))

gets-all : HasPlayed disc_site (Fail 0 ∷ Tick 1 ∷ Tick 16 ∷ Reload 0 ∷ Run 0 ∷ Deliver bus.X 0 ∷ Deliver bus.X 0
    ∷ Run 0 ∷ []) backed
unfolding int_wrap
gets-all =
    played_more (played_more (played_more (played_more stops-first
    (plays_run (by_checkpoint 0 _ refl (by_send Second refl (inr (refl, λ at. cc)) refl refl))))
    (plays_hand _ takes_first (by_checkpoint 0 _ refl
    (by_apply First _ _ refl (inl refl) refl refl refl (omega arith)))))
    (plays_hand _ takes_first (by_checkpoint 0 _ refl
    (by_acknowledge Second _ refl refl (inl refl) refl refl))))
    (plays_run (by_checkpoint 0 _ refl (by_end Second refl refl (λ at. cc) refl)))

stops-second : HasPlayed disc_site (Fail 0 ∷ Tick 1 ∷ Tick 16 ∷ Reload 0 ∷ Run 0 ∷ Deliver bus.X 0
    ∷ Deliver bus.X 0 ∷ Run 0 ∷ Fail 1 ∷ Tick 0 ∷ Tick 16 ∷ []) over
stops-second =
    played_more (played_more (played_more gets-all
    (plays_fail (by_stop 1 refl refl)))
    (plays_tick refl (one_mark 1 (by_mark 0 1 refl refl refl) no_mark)))
    (plays_tick refl (one_mark 1 (by_mark 16 1 refl refl refl) no_mark))

asks : HasPlayed disc_site (Fail 0 ∷ Tick 1 ∷ Tick 16 ∷ Reload 0 ∷ Run 0 ∷ Deliver bus.X 0
    ∷ Deliver bus.X 0 ∷ Run 0 ∷ Fail 1 ∷ Tick 0 ∷ Tick 16 ∷ Enter 0 ∷ Deliver bus.X 0 ∷ []) asked
asks =
    played_more (played_more stops-second
    (plays_enter (by_enter 0 _ _ refl refl refl refl)))
    (plays_hand _ takes_first (by_request _ First _ (inl refl) refl refl))

takes-it : HasPlayed disc_site (Fail 0 ∷ Tick 1 ∷ Tick 16 ∷ Reload 0 ∷ Run 0 ∷ Deliver bus.X 0
    ∷ Deliver bus.X 0 ∷ Run 0 ∷ Fail 1 ∷ Tick 0 ∷ Tick 16 ∷ Enter 0 ∷ Deliver bus.X 0 ∷ Run 0 ∷ Run 0 ∷ []) taken
takes-it =
    played_more (played_more asks
    (plays_run (by_own 0 First _ refl refl (by_take refl) (takes _ refl refl) (begins refl (omega arith) refl)
    (refl, refl))))
    (plays_run (by_checkpoint 0 _ refl (by_pass First refl refl refl (omega arith))))

comes-to-last : HasPlayed disc_site two_stops last
comes-to-last =
    played_more (played_more (played_more takes-it
    (plays_run (by_own 0 First _ refl refl (by_write {sector = 1} {words = sector_with (pos 5)} {write = 1} refl)
    (acts refl refl) (keeps refl (omega arith) refl) (refl, refl))))
    (plays_run (by_own 0 First _ refl refl (by_answer {place = 0} {words = pos 0 ∷ []} refl)
    (answers _ _ refl refl refl refl refl) (keeps refl (omega arith) refl) (refl, refl))))
    (plays_hand _ takes_first (by_print 0 _ _ refl refl (inl refl) refl refl))

-- Its end

-- what is so of the disc is so of each process
each : (P : ProcessSpec → Type 0) → P disc → (number : ℕ) (spec : ProcessSpec)
    → slice_get disc_site.processes number ≡ Some spec → P spec
each P has zero spec there = subst P (some-same there) has
each P has (suc number) spec there = absurd (cc)

seats : IsPlaced disc_site
seats = each (λ spec. (spec.primary < 2) × (spec.backup < 2) × (spec.primary ≢ spec.backup))
    (omega arith, omega arith, λ same. cc)

none : (number : ℕ) → run_done disc_site number last.world ≡ None
none zero = refl
none (suc number) = refl

none-enters : (number : ℕ) (terminal : Terminal) → slice_get last.world.terminals number ≡ Some terminal
    → next_request disc_site number terminal.entered ≡ None
none-enters zero terminal there =
    subst (λ (t : Terminal). next_request disc_site zero t.entered ≡ None) (some-same there) refl
none-enters (suc number) terminal there = absurd (cc)

unsent : (number : ℕ) (pair : Pair) (k : Which) → slice_get last.world.processes number ≡ Some pair
    → (copy_of k pair).sent ≡ false
unsent zero pair First there = subst (λ (p : Pair). p.first.sent ≡ false) (some-same there) refl
unsent zero pair Second there = subst (λ (p : Pair). p.second.sent ≡ false) (some-same there) refl
unsent (suc number) pair k there = absurd (cc)

short : (terminal entered : ℕ) (words : List ℤ) → next_request disc_site terminal entered ≡ Some words
    → length words ≤ 16
short zero zero words next = rw (← some-same next) (omega arith)
short zero (suc entered) words next = absurd (cc)
short (suc terminal) entered words next = absurd (cc)

marked : (node processor : ℕ) → is_running last.world.stopped node ≡ true
    → slice_get last.world.stopped processor ≡ Some true
    → has_marked last.world.downs node processor ≡ true
marked node zero runs down = absurd (cc)
marked zero (suc zero) runs down = refl
marked (suc zero) (suc zero) runs down = absurd (cc)
marked (suc (suc node)) (suc zero) runs down = rw (eqb-true (suc (suc node)) 16 runs) refl
marked node (suc (suc processor)) runs down = absurd (cc)

none-awaits : {asker n : ℕ} {one : Who} → IsAwaited disc_site last.world asker one n → ⊥
none-awaits (by_copy {number = zero} pair First there role at file next) =
    let still = subst (λ (p : Pair). process.point p.first.core.state ≡ point.Await) (sym (some-same there)) at in cc
none-awaits (by_copy {number = zero} pair Second there role at file next) =
    let still = subst (λ (p : Pair). process.point p.second.core.state ≡ point.Await) (sym (some-same there)) at in cc
none-awaits (by_copy {number = suc number} pair k there role at file next) = cc
none-awaits (by_terminal {number = zero} terminal there waits) =
    let still = subst (λ (t : Terminal). t.entered ≡ t.printed + 1) (sym (some-same there)) waits in
    omega (arith, still)
none-awaits (by_terminal {number = suc number} terminal there waits) = cc

pub returns : goal.returns
returns c = (
  last,
  comes-to-last,
  record {
    fit = record {
      regular = each (λ spec. IsRegularKind spec.what) tt;
      disciplined =
          λ number. each (IsDisciplined disc_site number) (disc-disciplined disc_site number 2 false disc refl) number;
      requests = short;
      seats = seats;
    };
    laid_out = record { few = omega arith; places = seats };
    few = omega arith;
    run = played-run comes-to-last;
    served = λ asker one n opener pair opens there awaited. absurd (none-awaits awaited);
    idle = record {
      enters = λ number sendings next change.
          (let has = entering-even number change refl in
          let none = none-enters number has.terminal has.there in let some = has.next in cc);
      runs = λ number. run-idle disc_site number last.world (none number);
      waits = λ number pair k there role. unsent number pair k there;
      owed = λ letter among sender receiver. among;
      marked = marked;
    };
  },
  refl,
  refl,
)
