-- The chart of a run's events, and what the call does that makes it. Our own.
use Rattle.std.specs.Prelude.{◌≡◌, ◌≤◌, ℕ, ◌+◌, if◌then◌else◌, nat_lt, List, [], ◌∷◌, length, Option, Result, Ok, Err}
use Rattle.chart_drawing.specs.Chart.{chart_after, chart_at_boot}
use Rattle.chart_drawing.specs.declared.chart.Chart.{Chart}
use Rattle.chart_drawing.specs.declared.layout.Layout.{Layout}
use Rattle.charted_runs.specs.declared.charted.ChartFault.{ChartFault}
use Rattle.charted_runs.specs.declared.charted.ChartFault.TheVariants as fault
use Rattle.charted_runs.specs.declared.charted.Charted.{Charted}
use Rattle.traced_runs.specs.event_findings.specs.Told.{shown_by, told}
use Rattle.traced_runs.specs.packet_runs.specs.Runs.{course_on}
use Rattle.player.specs.declared.stop.ProcessorStop.{ProcessorStop}
use Rattle.schedule.specs.declared.event.Event.{Event}
use Rattle.schedule.specs.declared.line.Line.{Line}
use Rattle.traced_runs.specs.site_machine.specs.packet_wires.specs.Play.{Packeted, packeted_at_boot, play}
use Rattle.traced_runs.specs.site_machine.specs.packet_wires.specs.Sights.{state_after}
use Rattle.tal_tree.specs.declared.site.Site.{Site}
use Rattle.trace_lines.specs.declared.places.Places.{Places}
use Rattle.traced_runs.specs.Traces.{AreAskedFor, IsTold}

-- a chart after the event of a number, which is played in a state
abbrev pub drawn_by : Site → Places → ℕ → Packeted → Event → Chart → Chart
drawn_by site places number s event chart =
    chart_after site places chart number event (told site s event) (shown_by s event)

-- the same, unless the event is behind the last one that is drawn
abbrev pub charted_by : Site → Places → ℕ → ℕ → Packeted → Event → Chart → Chart
charted_by site places to number s event chart =
    if nat_lt to number then chart else drawn_by site places number s event chart

-- a chart after events that are played one after the other from a state on, where the first has this number
abbrev pub chart_from : Site → Places → ℕ → ℕ → Packeted → List Event → Chart → Chart
chart_from site places to number s [] chart = chart
chart_from site places to number s (event ∷ events) chart =
    chart_from site places to (number + 1) (state_after (play s event) s) events
    (charted_by site places to number s event chart)

-- the chart of the first events of a site
abbrev pub chart_of : Site → Places → Layout → ℕ → List Event → Chart
chart_of site places layout to events =
    chart_from site places to 1 (packeted_at_boot site) events (chart_at_boot layout site)

-- a chart has room for 400 events, from the first one on that is drawn
abbrev pub IsTooLong : Layout → ℕ → ℕ → Type 0
IsTooLong layout to asked = (layout.from + 400 ≤ asked) × (layout.from + 400 ≤ to)

abbrev pub IsWantOfMemory : ChartFault → Type 0
IsWantOfMemory (fault.NoMemory memory) = Unit {0}
IsWantOfMemory fault.TooLong = ⊥

-- the chart is that of all events that the schedule asks for, for which it has room, and the run is one of
-- `packet_runs`; or the schedule asks for more events than a chart has room for; or memory ran out
abbrev pub Charts : Site → Places → List Line → Option ProcessorStop → Layout → ℕ → Result Charted ChartFault → Type 0
Charts site places lines stop layout to (Ok charted) =
    (asked : List Event) × AreAskedFor (course_on site lines stop) asked
    × IsTold site lines stop asked charted.ran × (charted.chart ≡ chart_of site places layout to asked)
    × (IsTooLong layout to (length asked) → ⊥)
Charts site places lines stop layout to (Err fault.TooLong) =
    (asked : List Event) × AreAskedFor (course_on site lines stop) asked × IsTooLong layout to (length asked)
Charts site places lines stop layout to (Err (fault.NoMemory memory)) = Unit {0}
