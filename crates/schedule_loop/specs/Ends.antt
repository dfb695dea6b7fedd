-- How a run of a schedule ends on a machine, and what is left of it.
use Rattle.std.specs.Prelude.{◌≡◌, ◌<◌, ℕ, ◌+◌, Bool, true, false, List, length, Option, Some, None}
use Rattle.schedule.specs.declared.event.Event.{Event}
use Rattle.schedule.specs.declared.line.Line.{Line}
use Rattle.player.specs.declared.standing.Sizes.{Sizes}
use Rattle.player.specs.declared.stop.ProcessorStop.{ProcessorStop}
use Rattle.agendas.specs.Agendas.{Agenda, Plan}
use Rattle.machine_states.specs.States.{State, Would, Harm, SecondStop, DiscLoss}
use Rattle.schedule_loop.specs.Plans.{upcoming_seen}
use Rattle.schedule_loop.specs.Rules.{IsPlayBy, PlaysBy, Rules, sight_of}
use Rattle.schedule_loop.specs.declared.ran.Ending.{Ending}
use Rattle.schedule_loop.specs.declared.ran.Ending.TheVariants.{Idle, Cut, Second, Lost}

-- a schedule with a stop, and where it is played: the sizes of the site, and the state at the beginning
pub record Course (Wires : Type 0) : Type 0 where
  pub sizes : Sizes
  pub start : State Wires
  pub lines : List Line
  pub stop : Option ProcessorStop

abbrev pub Plays : {Wires : Type 0} → Rules Wires → Course Wires → List Event → Agenda → State Wires → Type 0
Plays rules course = PlaysBy rules course.sizes course.start course.lines course.stop

-- the plan for the next event, that so many precede
abbrev pub planned_in : {Wires : Type 0} → Rules Wires → Sizes → ℕ → State Wires → Agenda → Option Plan
planned_in rules sizes before s agenda = upcoming_seen sizes before (sight_of rules s) agenda

-- each state that a schedule reaches has what an event needs, and it asks for so few events that each has a number of
-- 32 bits, and so has the next one after it
pub record CanBePlayed {Wires : Type 0} (rules : Rules Wires) (is_ready : State Wires → Type 0)
    (course : Course Wires) : Type 0 where
  pub ready : (events : List Event) (agenda : Agenda) (s : State Wires) → Plays rules course events agenda s
      → is_ready s
  pub few : (events : List Event) (agenda : Agenda) (s : State Wires) → Plays rules course events agenda s
      → length events < 4294967294

-- a run of a schedule played these events, with this state at its end: the schedule is over
pub record RunsOutBy {Wires : Type 0} (rules : Rules Wires) (course : Course Wires) (events : List Event)
    (s : State Wires) : Type 0 where
  pub agenda : Agenda
  pub played : Plays rules course events agenda s
  pub over : planned_in rules course.sizes (length events) s agenda ≡ None

-- or it ends before an event that would do harm
pub record RunsToHarmBy {Wires : Type 0} (rules : Rules Wires) (course : Course Wires) (events : List Event)
    (s : State Wires) (harm : Harm) : Type 0 where
  pub agenda : Agenda
  pub plan : Plan
  pub played : Plays rules course events agenda s
  pub comes : planned_in rules course.sizes (length events) s agenda ≡ Some plan
  pub would : rules.play s plan.event ≡ Would harm

-- the run ended so: idle, and then it was closed; or with something left to do; or before an event that would stop a
-- second processor, or one that would lose a disc. The events that it asked for are those that it played, and the one
-- before which it ended
abbrev pub EndsBy : {Wires : Type 0} → Rules Wires → Course Wires → List Event → State Wires → State Wires → ℕ
    → Ending → Type 0
EndsBy rules course events s left asked Idle =
    RunsOutBy rules course events s × (rules.is_idle s ≡ true) × (left ≡ rules.closed s) × (asked ≡ length events)
EndsBy rules course events s left asked Cut =
    RunsOutBy rules course events s × (rules.is_idle s ≡ false) × (left ≡ s) × (asked ≡ length events)
EndsBy rules course events s left asked (Second processor) =
    RunsToHarmBy rules course events s (SecondStop processor) × (left ≡ s) × (asked ≡ length events + 1)
EndsBy rules course events s left asked (Lost process) =
    RunsToHarmBy rules course events s (DiscLoss process) × (left ≡ s) × (asked ≡ length events + 1)

-- what is left is left of a run of the schedule: these events were played one after the other, fewer than 4,294,967,295
-- of them, and led to a state, with which the run ended as it says
pub record IsRunOn {Wires : Type 0} (rules : Rules Wires) (course : Course Wires) (is_broken : Bool)
    (left : State Wires) (asked : ℕ) (ending : Ending) : Type 0 where
  pub events : List Event
  pub state : State Wires
  pub few : length events < 4294967295
  pub whole : is_broken ≡ false
  pub ends : EndsBy rules course events state left asked ending

-- what is left of a run whose events led a machine to this state, by whether it is idle there: it is closed then
abbrev pub IsEndBy : {Wires : Type 0} → Rules Wires → State Wires → ℕ → Bool → State Wires → ℕ → Ending → Type 0
IsEndBy rules before played true left asked ending =
    (ending ≡ Idle) × (left ≡ rules.closed before) × (asked ≡ played)
IsEndBy rules before played false left asked ending = (ending ≡ Cut) × (left ≡ before) × (asked ≡ played)

-- how a run ends before an event that would do this harm
abbrev pub ending_by : Harm → Ending
ending_by (SecondStop processor) = Second processor
ending_by (DiscLoss process) = Lost process

-- an event would do harm, by which the run ends so, and nothing changes
pub record IsHarmBy {Wires : Type 0} (rules : Rules Wires) (s : State Wires) (event : Event) (next : State Wires)
    (ending : Ending) : Type 0 where
  pub harm : Harm
  pub would : rules.play s event ≡ Would harm
  pub ends : ending ≡ ending_by harm
  pub same : next ≡ s

-- an event was played, or the run ends before it
abbrev pub IsTriedBy : {Wires : Type 0} → Rules Wires → State Wires → Event → State Wires → Option Ending → Type 0
IsTriedBy rules s event next None = IsPlayBy rules s event next
IsTriedBy rules s event next (Some ending) = IsHarmBy rules s event next ending
