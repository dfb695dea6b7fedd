-- What is drawn of an event, as a group of shapes whose title is the line of the event.
use Rattle.std.specs.Fmt.{decimal}
use Rattle.std.specs.Prelude.{ℕ, ◌+◌, List, [], ◌∷◌, ◌++◌, codes, flat_map, map, Option, Some, None}
use Rattle.chart_drawing.specs.Drawn.{drawn_by, drawn_of}
use Rattle.chart_drawing.specs.Layout.{copy_spot, event_y, lane_spot}
use Rattle.chart_drawing.specs.Packets.{packet_shapes}
use Rattle.chart_drawing.specs.Signs.{sign_shapes}
use Rattle.chart_drawing.specs.Standings.{acting_in, copy_bar}
use Rattle.chart_drawing.specs.declared.drawn.Drawn.{Drawn}
use Rattle.chart_drawing.specs.declared.drawn.Drawn.TheVariants as drawn
use Rattle.chart_drawing.specs.declared.drawn.Place.{Place}
use Rattle.chart_drawing.specs.declared.drawn.Place.TheVariants.{Node, Copy, Acting}
use Rattle.chart_drawing.specs.declared.drawn.Sign.{Sign}
use Rattle.chart_drawing.specs.declared.layout.Layout.{Layout}
use Rattle.chart_drawing.specs.declared.standing.Standing.{Standing}
use Rattle.chart_drawing.specs.declared.ways.Way.{Way}
use Rattle.schedule.specs.declared.event.Event.{Event}
use Rattle.svg_text.specs.declared.drawing.Group.{Group}
use Rattle.svg_text.specs.declared.drawing.Shape.{Shape}
use Rattle.svg_text.specs.declared.drawing.Shape.TheVariants.{Line, Words}
use Rattle.svg_text.specs.declared.drawing.Spot.{Spot}
use Rattle.svg_text.specs.declared.looks.Look.TheVariants as look
use Rattle.tal_tree.specs.declared.act.Shown.{Shown}
use Rattle.tal_tree.specs.declared.site.Site.{Site}
use Rattle.trace_lines.specs.EventLine.{event_line, event_text}
use Rattle.trace_lines.specs.declared.finding.Finding.{Finding}
use Rattle.trace_lines.specs.declared.places.Places.{Places}

-- Signs

abbrev pub acting_spot : Layout → ℕ → Option ℕ → ℕ → Option Spot
acting_spot layout process None number = None
acting_spot layout process (Some processor) number = Some (copy_spot layout process processor number)

-- where the event of a number is at a place
abbrev pub spot_of : Layout → List Standing → ℕ → Place → Option Spot
spot_of layout standings number (Node node) = Some (lane_spot layout node number)
spot_of layout standings number (Copy process processor) = Some (copy_spot layout process processor number)
spot_of layout standings number (Acting process) = acting_spot layout process (acting_in process standings) number

abbrev pub signed_shapes : Sign → Option Spot → List Shape
signed_shapes sign None = []
signed_shapes sign (Some at) = sign_shapes sign at

-- a line along the event, from the node that pulls it to the processor
abbrev pub hold_shape : Layout → ℕ → ℕ → ℕ → Shape
hold_shape layout number node processor =
    Line look.Hold (lane_spot layout node number) (lane_spot layout processor number)

abbrev pub drawn_shapes : Layout → List Standing → List Way → ℕ → Drawn → List Shape
drawn_shapes layout standings ways number drawn.Nothing = []
drawn_shapes layout standings ways number (drawn.Sign sign place) =
    signed_shapes sign (spot_of layout standings number place)
drawn_shapes layout standings ways number (drawn.Hold node processor) = hold_shape layout number node processor ∷ []
drawn_shapes layout standings ways number (drawn.Packet packet fate) = packet_shapes layout ways number packet fate

-- Events

abbrev pub all_found : Layout → List Standing → List Way → ℕ → Event → List Finding → List Shape
all_found layout standings ways number event findings =
    flat_map (λ finding. drawn_shapes layout standings ways number (drawn_by event finding)) findings

abbrev pub all_shown : Layout → List Standing → List Way → ℕ → List Shown → List Shape
all_shown layout standings ways number shown =
    flat_map (λ one. drawn_shapes layout standings ways number (drawn_of one)) shown

abbrev pub name_words : Site → ℕ → Event → List ℕ
name_words site number event = decimal number ++ codes " " ++ event_text site event

-- the number and the name of an event, left of the lanes
abbrev pub event_label : Site → Layout → ℕ → Event → Shape
event_label site layout number event =
    Words look.Event (record { x = 4; y = event_y layout number + 4 }) (name_words site number event)

-- the name of an event, the copies as they are after it, what it did, and what it showed
abbrev pub event_shapes : Site → Layout → List Standing → List Standing → List Way → ℕ → Event → List Finding
    → List Shown → List Shape
event_shapes site layout before after ways number event findings shown =
    (event_label site layout number event ∷ [])
    ++ map (copy_bar layout number) after
    ++ all_found layout before ways number event findings
    ++ all_shown layout before ways number shown

abbrev pub event_group : Site → Places → Layout → List Standing → List Standing → List Way → ℕ → Event → List Finding
    → List Shown → Group
event_group site places layout before after ways number event findings shown = record {
  title = event_line site places number event findings shown;
  shapes = event_shapes site layout before after ways number event findings shown;
}
