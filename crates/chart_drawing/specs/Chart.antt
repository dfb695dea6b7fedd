-- The chart of a run: of each event what it is told to have done, drawn by how the copies stood before it and what was
-- sent so far. Our own.
use Rattle.std.specs.Prelude.{ℕ, ◌+◌, nat_le, if◌then◌else◌, List, [], ◌∷◌, ◌++◌, length, map}
use Rattle.chart_drawing.specs.Frame.{frame_group}
use Rattle.chart_drawing.specs.Groups.{event_group}
use Rattle.chart_drawing.specs.Keys.{key_group}
use Rattle.chart_drawing.specs.Layout as layouts
use Rattle.chart_drawing.specs.Standings.{after_all, standings_at_boot}
use Rattle.chart_drawing.specs.Ways.{ways_by}
use Rattle.chart_drawing.specs.declared.chart.Chart.{Chart}
use Rattle.chart_drawing.specs.declared.layout.Layout.{Layout}
use Rattle.schedule.specs.declared.event.Event.{Event}
use Rattle.svg_text.specs.declared.drawing.Drawing.{Drawing}
use Rattle.svg_text.specs.declared.drawing.Group.{Group}
use Rattle.tal_tree.specs.declared.act.Shown.{Shown}
use Rattle.tal_tree.specs.declared.site.Site.{Site}
use Rattle.trace_lines.specs.declared.finding.Finding.{Finding}
use Rattle.trace_lines.specs.declared.places.Places.{Places}

abbrev pub chart_at_boot : Layout → Site → Chart
chart_at_boot layout site =
    record { layout = layout; standings = standings_at_boot layout site; ways = []; groups = [] }

-- an event is drawn, unless it is before the first one that is
abbrev pub groups_after : Site → Places → Chart → ℕ → Event → List Finding → List Shown → List Group
groups_after site places chart number event findings shown =
    if nat_le chart.layout.from number
    then chart.groups ++ event_group site places chart.layout chart.standings
    (map (after_all findings) chart.standings) chart.ways number event findings shown ∷ []
    else chart.groups

-- the chart after an event of a number, which did this and showed this
abbrev pub chart_after : Site → Places → Chart → ℕ → Event → List Finding → List Shown → Chart
chart_after site places chart number event findings shown = record {
  layout = chart.layout;
  standings = map (after_all findings) chart.standings;
  ways = chart.ways ++ ways_by number findings;
  groups = groups_after site places chart number event findings shown;
}

-- the lanes end below the last event, and what the shapes mean comes then
abbrev pub drawing_down_to : Site → Chart → ℕ → Drawing
drawing_down_to site chart bottom = record {
  width = layouts.width chart.layout;
  height = bottom + 316;
  under = frame_group chart.layout site bottom;
  groups = chart.groups ++ key_group bottom ∷ [];
}

abbrev pub drawing_of : Site → Chart → Drawing
drawing_of site chart = drawing_down_to site chart (layouts.bottom chart.layout (length chart.groups))
