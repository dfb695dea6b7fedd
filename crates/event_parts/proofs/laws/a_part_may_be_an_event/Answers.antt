use Rattle.std.proofs.Common.{List, ap, sym}
use Rattle.packet_wires.specs.Nodes.{Node}
use Rattle.packet_wires.specs.Wires.{nothing_sent, with_sent}
use Rattle.event_parts.proofs.laws.a_part_may_be_an_event.Goals as goal

pub returns : goal.returns
returns c = λ s part wires same. ap (λ (nodes : List Node). with_sent (part (nothing_sent nodes)) wires) (sym same)
