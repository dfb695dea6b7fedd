-- The trace of events: the line of each, by what playing it makes of the state before it. Our own.
use Rattle.std.specs.Prelude.{ℕ, ◌+◌, ◌&&◌, Bool, if◌then◌else◌, nat_le, List, [], ◌∷◌, ◌++◌, Option, Some, None}
use Rattle.event_findings.specs.Told.{shown_by, told}
use Rattle.machine_states.specs.declared.effect.Effect.{Effect}
use Rattle.machine_states.specs.declared.effect.Effect.TheVariants as effect
use Rattle.schedule.specs.declared.event.Event.{Event}
use Rattle.schedule_loop.specs.declared.ran.Ending.{Ending}
use Rattle.schedule_loop.specs.declared.ran.Ending.TheVariants.{Second, Lost}
use Rattle.packet_runs.specs.site_machine.specs.packet_wires.specs.Play.{Packeted, packeted_at_boot, play}
use Rattle.packet_runs.specs.site_machine.specs.packet_wires.specs.Sights.{state_after}
use Rattle.tal_tree.specs.declared.site.Site.{Site}
use Rattle.trace_forms.specs.Forms.{line_in}
use Rattle.trace_forms.specs.declared.form.Form.{Form}
use Rattle.trace_forms.specs.declared.form.Form.TheVariants as form
use Rattle.trace_lines.specs.declared.places.Places.{Places}
use Rattle.traced_runs.specs.declared.manner.Manner.{Manner}
use Rattle.traced_runs.specs.declared.manner.Span.{Span}

abbrev pub is_within : Span → ℕ → Bool
is_within span number = nat_le span.from number && nat_le number span.to

abbrev pub form_of : Bool → Form
form_of json = if json then form.Json else form.Text

-- from the event of a number to that of another, as JSON or as text
abbrev pub manner_of : ℕ → ℕ → Bool → Manner
manner_of from to json = record { span = record { from = from; to = to }; form = form_of json }

-- the line in a form of the event of a number, which is played in a state
abbrev pub told_line : Form → Site → Places → ℕ → Packeted → Event → List ℕ
told_line shape site places number s event =
    line_in shape site places number event (told site s event) (shown_by s event)

-- the same where the number is within the span, and nothing elsewhere
abbrev pub line_told : Site → Places → Manner → ℕ → Packeted → Event → List ℕ
line_told site places manner number s event =
    if is_within manner.span number then told_line manner.form site places number s event else []

-- the lines of events that are played one after the other from a state on, where the first has this number
abbrev pub trace_from : Site → Places → Manner → ℕ → Packeted → List Event → List ℕ
trace_from site places manner number s [] = []
trace_from site places manner number s (event ∷ events) =
    line_told site places manner number s event
    ++ trace_from site places manner (number + 1) (state_after (play s event) s) events

-- the lines of the first events of a site
abbrev pub trace_of : Site → Places → Manner → List Event → List ℕ
trace_of site places manner events = trace_from site places manner 1 (packeted_at_boot site) events

-- how a run ends before an event that has this answer, where it does
abbrev pub ending_of : Effect → Option Ending
ending_of effect.Done = None
ending_of effect.Skipped = None
ending_of (effect.WouldStopSecond processor) = Some (Second processor)
ending_of (effect.WouldLoseDisc process) = Some (Lost process)
