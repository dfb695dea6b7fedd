-- What the code that plays whole rounds of a drain shows, part by part.
use Rattle.std.specs.Prelude.{◌≡◌, ◌≤◌, ◌<◌, ◌+◌, ℕ, List, Option, Some, None}
use Rattle.schedule.specs.declared.event.Counts.{Counts}
use Rattle.schedule.specs.declared.line.Line.{Line}
use Rattle.player.specs.Lines.{moved}
use Rattle.player.specs.Rounds.{next_turn}
use Rattle.player.specs.declared.standing.LinePlace.{LinePlace}
use Rattle.player.specs.declared.standing.LinePlace.TheVariants as standing
use Rattle.player.specs.declared.standing.Place.{Place}
use Rattle.player.specs.declared.standing.Rule.TheVariants as rule
use Rattle.player.specs.declared.standing.Turn.{Turn}
use Rattle.player.specs.declared.stop.ProcessorStop.{ProcessorStop}
use Rattle.agendas.specs.Agendas.{coming}
use Rattle.machine_states.specs.States.{State}
use Rattle.schedule_loop.specs.Ends.{CanBePlayed, Course}
use Rattle.schedule_loop.specs.Plans.{next_seen}
use Rattle.schedule_loop.specs.Playing.{IsPlaying}
use Rattle.schedule_loop.specs.Rules.{Rules, sight_of}
use Rattle.schedule_loop.specs.Seen.{Scheduled}
use Rattle.schedule_loop.specs.declared.drain.Drain.{Drain}

abbrev pub standing_of : Drain → LinePlace
standing_of drain = standing.Rounds rule.Drain drain.left drain.place

-- a schedule that stands at a drain, with these lines after it and this stop still to come, and no event held back
abbrev pub scheduled : List Line → Option ProcessorStop → Drain → Scheduled
scheduled lines stop drain = record {
  sizes = drain.sizes;
  agenda = record { standing = standing_of drain; lines = lines; stop = stop; held_back = None };
}

abbrev pub counted : {Wires : Type 0} → Rules Wires → Drain → State Wires → Counts
counted rules drain s = sight_of rules s (record { sizes = drain.sizes; standing = standing_of drain })

-- the next event of a drain is this turn, with which so many rounds are left
abbrev pub Takes : {Wires : Type 0} → Rules Wires → ℕ → Drain → State Wires → Turn → Type 0
Takes rules rest drain s turn =
    next_seen drain.sizes (sight_of rules s) (standing_of drain) ≡ Some (moved rule.Drain rest turn)

-- it is that of a round which stands at this place
abbrev pub IsDueAt : {Wires : Type 0} → Rules Wires → ℕ → Drain → State Wires → Place → Type 0
IsDueAt rules rest drain s place = Takes rules rest drain s
    (next_turn drain.sizes (counted rules drain s).x (counted rules drain s).y place)

-- the drain after its next event, with which its round stands at this place
abbrev pub stood : ℕ → Place → Drain → Drain
stood rest place drain = record drain { left = rest; place = place; played = drain.played + 1 }

-- no stop comes after so many events, until so many were played
abbrev pub IsFree : Option ProcessorStop → ℕ → ℕ → Type 0
IsFree stop from until = (n : ℕ) → from ≤ n → n < until → coming stop n ≡ None

-- a schedule that can be played stands at this drain
pub record IsDrained {Wires : Type 0} (rules : Rules Wires) (is_ready : State Wires → Type 0) (drain : Drain)
    (s : State Wires) : Type 0 where
  pub course : Course Wires
  pub lines : List Line
  pub stop : Option ProcessorStop
  pub can : CanBePlayed rules is_ready course
  pub free : IsFree stop drain.played drain.until
  pub playing : IsPlaying rules course (scheduled lines stop drain) s drain.played

-- whatever schedule stands at the one drain, by its events it comes to stand at the other
pub record Drains {Wires : Type 0} (rules : Rules Wires) (before after : Drain) (s next : State Wires) : Type 0 where
  pub sizes : after.sizes ≡ before.sizes
  pub until : after.until ≡ before.until
  pub more : before.played ≤ after.played
  pub plays : (course : Course Wires) (lines : List Line) (stop : Option ProcessorStop)
      → IsFree stop before.played before.until
      → IsPlaying rules course (scheduled lines stop before) s before.played
      → IsPlaying rules course (scheduled lines stop after) next after.played

-- a schedule that can be played was played up to here
pub record GoesOn {Wires : Type 0} (rules : Rules Wires) (is_ready : State Wires → Type 0) (all : Scheduled)
    (s : State Wires) (played : ℕ) : Type 0 where
  pub course : Course Wires
  pub can : CanBePlayed rules is_ready course
  pub playing : IsPlaying rules course all s played
