-- The events that a schedule asks for, one after another, and values for the guards.
use Rattle.std.specs.Prelude.{ℕ, ◌+◌, List, [], ◌∷◌, ◌++◌, Option, Some, None, replicate}
use Rattle.schedule.specs.declared.event.Event.{Event}
use Rattle.schedule.specs.declared.event.Event.TheVariants as event
use Rattle.schedule.specs.declared.event.Counts.{Counts}
use Rattle.schedule.specs.declared.line.Line.{Line}
use Rattle.schedule.specs.declared.line.Line.TheVariants.{One, Many}
use Rattle.player.specs.declared.standing.Sizes.{Sizes}
use Rattle.player.specs.declared.stop.ProcessorStop.{ProcessorStop}
use Rattle.player.specs.Played.{idle, processes}
use Rattle.tal_tree.specs.declared.act.Shown.{Shown}
use Rattle.message_wires.specs.Play.{MachineState}
use Rattle.message_wires.specs.Wires.{Sent}
use Rattle.schedule_runs.specs.Runs.{Agenda, Plan, agenda_of}
use Rattle.schedule_runs.specs.schedule_loop.specs.Plans.{upcoming_seen}

abbrev pub told : Option Plan → List Event
told None = []
told (Some plan) = plan.event ∷ []

abbrev pub agenda_after : Agenda → Option Plan → Agenda
agenda_after agenda None = agenda
agenda_after agenda (Some plan) = plan.agenda

-- the events that a schedule gives as it is asked once with each of these counts, where so many events precede
abbrev pub events_from : Sizes → ℕ → Agenda → List Counts → List Event
events_from sizes before agenda [] = []
events_from sizes before agenda (counts ∷ more) =
    told (upcoming_seen sizes before (λ player. counts) agenda)
    ++ events_from sizes (before + 1) (agenda_after agenda (upcoming_seen sizes before (λ player. counts) agenda)) more

-- on a site of two processors, one process and two terminals
abbrev pub events_of : List Line → Option ProcessorStop → List Counts → List Event
events_of lines stop counts = events_from (processes 1) 0 (agenda_of lines stop) counts

-- the stop of processor 1 before the event that so many precede
abbrev pub stop : ℕ → Option ProcessorStop
stop after = Some (record { processor = 1; after = after })

-- lines that ask for three events
abbrev pub three : List Line
three = Many (event.Enter 0) 2 ∷ One (event.Run 0) ∷ []

-- the events of these lines, with a stop
abbrev pub three_with : Option ProcessorStop → List Event
three_with stop = events_of three stop (replicate 9 idle)

-- a state with these packets on its bus, and one in which this was shown, the newest first
abbrev pub with_bus : List Sent → MachineState → MachineState
with_bus bus s = record s { wires = record s.wires { bus = bus } }

abbrev pub showing : List Shown → MachineState → MachineState
showing shown s = record s { world = record s.world { shown = shown } }
