-- Where a schedule stands, and which event is its next one; and runs of a schedule, on whatever machine. The lines are
-- our own.
use Rattle.std.specs.Prelude.{◌≡◌, ℕ, ◌==◌, if◌then◌else◌, List, [], ◌∷◌, ◌++◌, length, Option, Some, None}
use Rattle.std.specs.Option.{option_map}
use Rattle.schedule.specs.declared.event.Counts.{Counts}
use Rattle.schedule.specs.declared.event.Event.{Event}
use Rattle.schedule.specs.declared.event.Event.TheVariants.{Fail}
use Rattle.schedule.specs.declared.line.Line.{Line}
use Rattle.player.specs.declared.standing.Sizes.{Sizes}
use Rattle.player.specs.declared.standing.LinePlace.{LinePlace}
use Rattle.player.specs.declared.standing.LinePlace.TheVariants as standing
use Rattle.player.specs.declared.standing.Move.{Move}
use Rattle.player.specs.declared.stop.ProcessorStop.{ProcessorStop}
use Rattle.player.specs.Lines.{begun, next_event}

-- The next event of a schedule

-- where a schedule stands: its line, the lines after it, the stop that is still to come, and the event that was to come
-- when a stop came before it
pub record Agenda : Type 0 where
  pub standing : LinePlace
  pub lines : List Line
  pub stop : Option ProcessorStop
  pub held_back : Option Event

abbrev pub agenda_of : List Line → Option ProcessorStop → Agenda
agenda_of lines stop = record { standing = standing.Ended; lines = lines; stop = stop; held_back = None }

-- the next event, and where the schedule stands then
pub record Plan : Type 0 where
  pub event : Event
  pub agenda : Agenda

-- the next event of a line and the lines after it, where the line gives this: its own, or else that of the first line
-- after it that gives one
abbrev pub planned_by : Sizes → Counts → Option ProcessorStop → List Line → Option Move → Option Plan
planned_by sizes counts stop lines (Some move) =
    Some (record {
      event = move.event;
      agenda =
          record { standing = move.standing; lines = lines; stop = stop; held_back = None };
    })
planned_by sizes counts stop [] None = None
planned_by sizes counts stop (line ∷ lines) None =
    planned_by sizes counts stop lines (next_event sizes (begun line) counts)

-- the processor whose stop comes just before the event that so many events precede
abbrev pub coming : Option ProcessorStop → ℕ → Option ℕ
coming None before = None
coming (Some stop) before = if stop.after == before then Some stop.processor else None

-- a stop comes before a planned event, which is held back
abbrev pub stopped_by : Option ℕ → Plan → Plan
stopped_by None plan = plan
stopped_by (Some processor) plan =
    record { event = Fail processor; agenda = record plan.agenda { stop = None; held_back = Some plan.event } }

abbrev pub upcoming_after : Sizes → ℕ → Counts → Agenda → Option Event → Option Plan
upcoming_after sizes before counts agenda (Some event) =
    Some (record { event = event; agenda = record agenda { held_back = None } })
upcoming_after sizes before counts agenda None =
    option_map (stopped_by (coming agenda.stop before))
    (planned_by sizes counts agenda.stop agenda.lines (next_event sizes agenda.standing counts))

-- the next event of a schedule, that so many events precede, by the counts before it; none where the schedule is over.
-- A stop comes just before an event that is to come, and that event comes after it, whatever the counts are then
abbrev pub next_plan : Sizes → ℕ → Counts → Agenda → Option Plan
next_plan sizes before counts agenda = upcoming_after sizes before counts agenda agenda.held_back

-- Runs

-- on a machine with such states, of which these counts are taken, and whose states go on so with an event: these events
-- of a schedule with a stop came from this state at the beginning one after the other, each as its counts gave it, and
-- lead to a state and to where the schedule stands
pub data PlaysOn {S : Type 0} (sizes : Sizes) (counts : S → Counts) (goes : S → Event → S → Type 0) (start : S)
    (lines : List Line) (stop : Option ProcessorStop)
    : List Event → Agenda → S → Type 0 where
  plays_none : PlaysOn sizes counts goes start lines stop [] (agenda_of lines stop) start
  plays_on : {events : List Event} {agenda : Agenda} {s next : S} → (plan : Plan)
      → PlaysOn sizes counts goes start lines stop events agenda s
      → next_plan sizes (length events) (counts s) agenda ≡ Some plan → goes s plan.event next
      → PlaysOn sizes counts goes start lines stop (events ++ plan.event ∷ []) plan.agenda next
