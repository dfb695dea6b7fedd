-- A packet and its fate. Our own wording.
use Rattle.std.specs.Prelude.{ℕ, List, [], ◌++◌, codes}
use Rattle.trace_lines.specs.Names.{numbered_text}
use Rattle.trace_lines.specs.declared.finding.Fate.{Fate}
use Rattle.trace_lines.specs.declared.finding.Fate.TheVariants as fate
use Rattle.trace_lines.specs.declared.finding.PacketSight.{PacketSight}
use Rattle.trace_lines.specs.declared.finding.PacketSort.{PacketSort}
use Rattle.trace_lines.specs.declared.finding.PacketSort.TheVariants as sort

abbrev pub sort_text : PacketSort → List ℕ
sort_text sort.Alive = codes "an alive packet"
sort_text (sort.Piece number) = numbered_text (codes "piece ") number []
sort_text (sort.LastPiece number) = numbered_text (codes "last piece ") number []
sort_text (sort.Acknowledgement number) = numbered_text (codes "acknowledgement ") number []

abbrev pub nodes_text : ℕ → ℕ → List ℕ
nodes_text sender receiver = numbered_text (codes " from ") sender [] ++ numbered_text (codes " for ") receiver []

abbrev pub fate_text : Fate → List ℕ
fate_text fate.Came = codes " comes"
fate_text fate.CameAgain = codes " comes again"
fate_text fate.Dropped = codes " is dropped, since its receiver has stopped"
fate_text fate.Refused = codes " is dropped, since its receiver has marked its sender"
fate_text fate.Old = codes " is dropped, since its sender or its receiver was loaded again"
fate_text fate.Lost = codes " is lost"
fate_text fate.Repeated = codes " goes once more over its bus"

abbrev pub packet_text : PacketSight → Fate → List ℕ
packet_text packet fate = sort_text packet.sort ++ nodes_text packet.sender packet.receiver ++ fate_text fate
