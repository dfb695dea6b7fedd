-- What the call does that plays a schedule and tells its events.
use Rattle.std.specs.Prelude.{◌≡◌, ℕ, List, [], ◌∷◌, ◌++◌, length, Option, Some, None, Result, Ok, Err}
use Rattle.agendas.specs.Agendas.{Agenda, Plan}
use Rattle.gd_io.specs.Puts.{Puts}
use Rattle.packet_runs.specs.Ends.{IsRunOf}
use Rattle.packet_runs.specs.Runs.{course_on, packet_rules}
use Rattle.packet_runs.specs.declared.ran.Ran.{Ran}
use Rattle.player.specs.declared.stop.ProcessorStop.{ProcessorStop}
use Rattle.schedule.specs.declared.event.Event.{Event}
use Rattle.schedule.specs.declared.line.Line.{Line}
use Rattle.schedule_loop.specs.Ends.{Course, Plays, planned_in}
use Rattle.packet_runs.specs.site_machine.specs.packet_wires.specs.Play.{Packeted}
use Rattle.packet_runs.specs.site_machine.specs.packet_wires.specs.Wires.{Wires}
use Rattle.tal_tree.specs.declared.site.Site.{Site}
use Rattle.trace_lines.specs.declared.places.Places.{Places}
use Rattle.traced_runs.specs.Trace.{trace_of}
use Rattle.traced_runs.specs.declared.fault.TraceFault.{TraceFault}
use Rattle.traced_runs.specs.declared.fault.TraceFault.TheVariants as fault
use Rattle.traced_runs.specs.declared.manner.Manner.{Manner}

-- the event that comes next, where one is asked for
abbrev pub ComesNext : Course Wires → List Event → Agenda → Packeted → Option Plan → Type 0
ComesNext course events agenda s None = Unit {0}
ComesNext course events agenda s (Some plan) =
    planned_in packet_rules course.sizes (length events) s agenda ≡ Some plan

abbrev pub event_of : Option Plan → List Event
event_of None = []
event_of (Some plan) = plan.event ∷ []

-- these are the first events that a schedule asks for: they were played one after the other, but for the last one
-- perhaps, which is the one that comes then
pub record AreAskedFor (course : Course Wires) (asked : List Event) : Type 0 where
  pub events : List Event
  pub agenda : Agenda
  pub state : Packeted
  pub played : Plays packet_rules course events agenda state
  pub last : Option Plan
  pub comes : ComesNext course events agenda state last
  pub are : asked ≡ events ++ event_of last

-- why an event wasn't played that isn't told
abbrev pub IsWantOfMemory : TraceFault → Type 0
IsWantOfMemory (fault.NoMemory memory) = Unit {0}
IsWantOfMemory (fault.Write why) = ⊥

-- what a call does that tells something with this text: the text went out; or a part of it before a write fault; or
-- nothing, where memory ran out
abbrev pub Tells : {K A : Type 0} → (K → Option (List ℕ)) → (K → ℕ) → (K → ℕ → Type 0) → K → K → List ℕ
    → Result A TraceFault → Type 0
Tells held faults sure old new text (Ok answer) = Puts held faults sure old new text (Ok tt)
Tells held faults sure old new text (Err (fault.Write why)) = Puts held faults sure old new text (Err why)
Tells held faults sure old new text (Err (fault.NoMemory memory)) = Puts held faults sure old new [] (Ok tt)

-- what is left of a run all of whose events were told
abbrev pub IsTold : Site → List Line → Option ProcessorStop → List Event → Ran → Type 0
IsTold site lines stop asked ran = IsRunOf site lines stop ran × (length asked ≡ ran.asked)

-- the trace of the first events that the schedule asks for goes out: of all of them, and then the run is one of
-- `packet_runs`; or a part of it, before a write fault; or that of some of them, where memory ran out
abbrev pub Traces : {K : Type 0} → (K → Option (List ℕ)) → (K → ℕ) → (K → ℕ → Type 0) → K → K → Site → Places
    → List Line → Option ProcessorStop → Manner → Result Ran TraceFault → Type 0
Traces held faults sure old new site places lines stop manner (Ok ran) =
    (asked : List Event) × AreAskedFor (course_on site lines stop) asked × IsTold site lines stop asked ran
    × Puts held faults sure old new (trace_of site places manner asked) (Ok tt)
Traces held faults sure old new site places lines stop manner (Err (fault.Write why)) =
    (asked : List Event) × AreAskedFor (course_on site lines stop) asked
    × Puts held faults sure old new (trace_of site places manner asked) (Err why)
Traces held faults sure old new site places lines stop manner (Err (fault.NoMemory memory)) =
    (asked : List Event) × AreAskedFor (course_on site lines stop) asked
    × Puts held faults sure old new (trace_of site places manner asked) (Ok tt)
