-- A chart of two processors and one process, from event 5 on.
use Rattle.std.specs.Prelude.{ℕ, Bool, true, false, List, [], ◌∷◌}
use Rattle.chart_drawing.specs.declared.layout.Layout.{Layout}
use Rattle.chart_drawing.specs.declared.standing.Standing.{Standing}
use Rattle.chart_drawing.specs.declared.ways.Way.{Way}
use Rattle.svg_text.specs.declared.drawing.Spot.{Spot}
use Rattle.trace_lines.specs.declared.finding.PacketSight.{PacketSight}
use Rattle.trace_lines.specs.declared.finding.PacketSort.{PacketSort}

abbrev pub layout : Layout
layout = record { processors = 2; processes = 1; from = 5; alive = false }

-- the same, with alive packets
abbrev pub with_alive : Layout
with_alive = record layout { alive = true }

abbrev pub spot : ℕ → ℕ → Spot
spot x y = record { x = x; y = y }

-- the copies of the process: in processor 0, and in processor 1
abbrev pub copy : ℕ → Bool → Bool → Standing
copy processor acts gone = record { process = 0; processor = processor; acts = acts; gone = gone }

-- one acts and the other watches
abbrev pub pair : List Standing
pair = copy 0 true false ∷ copy 1 false false ∷ []

abbrev pub packet : ℕ → ℕ → PacketSort → PacketSight
packet sender receiver sort = record { sender = sender; receiver = receiver; sort = sort }

-- what processor 0 sent to processor 1 at event 6: a message of three pieces
abbrev pub message : Way
message = record { sender = 0; receiver = 1; acknowledges = false; number = 3; event = 6 }

-- processor 1 acknowledged the first of its pieces at event 7
abbrev pub answer : Way
answer = record { sender = 1; receiver = 0; acknowledges = true; number = 1; event = 7 }

-- and once more at event 9, at which that piece came again
abbrev pub second_answer : Way
second_answer = record answer { event = 9 }
