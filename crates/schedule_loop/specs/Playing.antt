-- A schedule that is being played.
use Rattle.std.specs.Prelude.{◌≡◌, ℕ, List, length}
use Rattle.schedule.specs.declared.event.Event.{Event}
use Rattle.machine_states.specs.States.{State}
use Rattle.schedule_loop.specs.Ends.{Course, Plays}
use Rattle.schedule_loop.specs.Rules.{Rules}
use Rattle.schedule_loop.specs.Seen.{Scheduled}

-- so many events of a schedule were played, and led to this state and to where the schedule stands
pub record IsPlaying {Wires : Type 0} (rules : Rules Wires) (course : Course Wires) (schedule : Scheduled)
    (s : State Wires) (played : ℕ) : Type 0 where
  pub events : List Event
  pub counted : length events ≡ played
  pub plays : Plays rules course events schedule.agenda s
  pub sizes : schedule.sizes ≡ course.sizes
