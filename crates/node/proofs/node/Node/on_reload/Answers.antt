use Rattle.std.proofs.Common.{List, slice_get, sym, ap, ◌∙◌}
use Rattle.link_control.specs.Ends.{End}
use Rattle.event_parts.specs.packet_wires.specs.Nodes.{Node}
use Rattle.node.proofs.node.Node.on_reload.Goals as goal

pub reload_all-requires : goal.reload_all-requires
reload_all-requires c = λ y e there.
    c.requires y e
    (ap (λ (node : Node). slice_get node.ends y) (sym c.self.view_is)
    ∙ ap (λ (ends : List End). slice_get ends y) (sym c.as_mut_slice.ensures.value)
    ∙ there)
