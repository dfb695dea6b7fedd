-- What is drawn of packets: an arrow from the event that sent it to the one that delivered it, or a line with a cross
-- at its end if it was lost on the way or dropped. Arrows of messages are thick, and those of packets that hand nothing
-- over are thin. Alive packets are left out, or are drawn along the event that delivers them: nobody tells which event
-- sent them. Our own.
use Rattle.std.specs.Option.{unwrap_or}
use Rattle.std.specs.Prelude.{ℕ, ◌+◌, ◌-◌, nat_le, if◌then◌else◌, List, [], ◌∷◌}
use Rattle.chart_drawing.specs.Layout.{lane_spot, pitch}
use Rattle.chart_drawing.specs.Signs.{cross_shapes, dot}
use Rattle.chart_drawing.specs.Ways.{begun_at}
use Rattle.chart_drawing.specs.declared.layout.Layout.{Layout}
use Rattle.chart_drawing.specs.declared.ways.Way.{Way}
use Rattle.svg_text.specs.declared.drawing.Shape.{Shape}
use Rattle.svg_text.specs.declared.drawing.Shape.TheVariants.{Line}
use Rattle.svg_text.specs.declared.drawing.Spot.{Spot}
use Rattle.svg_text.specs.declared.looks.Look.{Look}
use Rattle.svg_text.specs.declared.looks.Look.TheVariants as look
use Rattle.trace_lines.specs.declared.finding.Fate.{Fate}
use Rattle.trace_lines.specs.declared.finding.Fate.TheVariants as fate
use Rattle.trace_lines.specs.declared.finding.PacketSight.{PacketSight}
use Rattle.trace_lines.specs.declared.finding.PacketSort.{PacketSort}
use Rattle.trace_lines.specs.declared.finding.PacketSort.TheVariants as sort

-- the event at which a packet was sent; this one, if that wasn't told
abbrev pub sent_at : List Way → ℕ → PacketSight → ℕ
sent_at ways number packet = unwrap_or (begun_at packet ways) number

-- the place beside a lane, toward another one: what is drawn on the lane itself isn't hidden
abbrev pub beside : Spot → Spot → Spot
beside at other = record { x = if nat_le at.x other.x then at.x + 7 else at.x - 7; y = at.y }

abbrev pub arrow : Look → Spot → Spot → Shape
arrow look from to = Line look (beside from to) (beside to from)

-- a line that ends in a cross
abbrev pub lost_shapes : Spot → Spot → List Shape
lost_shapes from to = Line look.Lost (beside from to) to ∷ cross_shapes to

-- the place before the lane of the second one, on the way from the first, where no copies stand
abbrev pub short_of : Layout → Spot → Spot → Spot
short_of layout from to = record {
  x = if nat_le from.x to.x then to.x - 40 else to.x + pitch layout - 40;
  y = to.y;
}

abbrev pub fate_shapes : Layout → Look → Spot → Spot → Fate → List Shape
fate_shapes layout kind from to fate.Came = arrow kind from to ∷ []
fate_shapes layout kind from to fate.CameAgain = arrow look.Thin from to ∷ []
fate_shapes layout kind from to fate.Dropped = lost_shapes from to
fate_shapes layout kind from to fate.Refused = lost_shapes from to
fate_shapes layout kind from to fate.Old = lost_shapes from to
fate_shapes layout kind from to fate.Lost = lost_shapes from (short_of layout from to)
fate_shapes layout kind from to fate.Repeated = dot (record { x = from.x; y = to.y }) ∷ []

abbrev pub sort_shapes : Layout → Spot → Spot → Fate → PacketSort → List Shape
sort_shapes layout from to fate sort.Alive = if layout.alive then fate_shapes layout look.Alive from to fate else []
sort_shapes layout from to fate (sort.Piece number) = fate_shapes layout look.Thin from to fate
sort_shapes layout from to fate (sort.LastPiece number) = fate_shapes layout look.Message from to fate
sort_shapes layout from to fate (sort.Acknowledgement number) = fate_shapes layout look.Thin from to fate

-- what is drawn of a packet that met its fate at the event of a number
abbrev pub packet_shapes : Layout → List Way → ℕ → PacketSight → Fate → List Shape
packet_shapes layout ways number packet fate =
    sort_shapes layout (lane_spot layout packet.sender (sent_at ways number packet))
    (lane_spot layout packet.receiver number) fate packet.sort
