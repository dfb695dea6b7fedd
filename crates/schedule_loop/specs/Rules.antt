-- A machine by its definition: what it makes of events, what is counted, and its end.
use Rattle.std.specs.Prelude.{◌≡◌, ◌⊎◌, Bool, List, Option}
use Rattle.schedule.specs.declared.event.Counts.{Counts}
use Rattle.schedule.specs.declared.event.Event.{Event}
use Rattle.schedule.specs.declared.line.Line.{Line}
use Rattle.player.specs.declared.player.Player.{Player}
use Rattle.player.specs.declared.standing.Sizes.{Sizes}
use Rattle.player.specs.declared.stop.ProcessorStop.{ProcessorStop}
use Rattle.agendas.specs.Agendas.{Agenda}
use Rattle.machine_states.specs.States.{Makes, Played, Skips, State}
use Rattle.schedule_loop.specs.Plans.{PlaysSeen, Sight}

pub record Rules (Wires : Type 0) : Type 0 where
  pub play : State Wires → Event → Played Wires
  -- what is counted where a player stands; whether the machine is idle is told apart
  pub counts : State Wires → Player → Counts
  pub is_idle : State Wires → Bool
  pub closed : State Wires → State Wires

-- all that is counted in a state
abbrev pub sight_of : {Wires : Type 0} → Rules Wires → State Wires → Sight
sight_of rules s player = record (rules.counts s player) { idle = rules.is_idle s }

-- an event is played: it makes the next state, or is skipped
abbrev pub IsPlayBy : {Wires : Type 0} → Rules Wires → State Wires → Event → State Wires → Type 0
IsPlayBy rules s event next = (rules.play s event ≡ Makes next) ⊎ ((rules.play s event ≡ Skips) × (next ≡ s))

-- these events of a schedule with a stop were played from this state one after the other, each as it came
abbrev pub PlaysBy : {Wires : Type 0} → Rules Wires → Sizes → State Wires → List Line → Option ProcessorStop
    → List Event → Agenda → State Wires → Type 0
PlaysBy rules sizes = PlaysSeen sizes (sight_of rules) (IsPlayBy rules)
