use Rattle.std.proofs.Common.{List, slice_get, sym, ap, ◌∙◌}
use Rattle.event_parts.specs.packet_wires.specs.Nodes.{Node}
use Rattle.event_parts.specs.packet_wires.specs.Wires.{Wires}
use Rattle.node.proofs.wires.PacketWires.reload.Goals as goal

pub reload_all-requires : goal.reload_all-requires
reload_all-requires c = λ y node there.
    c.requires y node
    (ap (λ (wires : Wires). slice_get wires.nodes y) (sym c.self.view_is)
    ∙ ap (λ (nodes : List Node). slice_get nodes y) (sym c.as_mut_slice.ensures.value)
    ∙ there)
