use Rattle.std.proofs.Common.{◌∙◌, ap}
use Rattle.tal_tree.specs.declared.site.Site.{Site}
use Rattle.node.specs.packet_wires.specs.Play.{Packeted}
use Rattle.node.specs.packet_wires.specs.Wires.{Wires, midst_after_tick}
use Rattle.node.specs.event_parts.specs.Parts.{carried_out}
use Rattle.site_machine.specs.contracts.whole.MachineParts.{the_view}
use Rattle.site_machine.proofs.whole.MachineParts.tick_wires.Goals as goal

pub returns : goal.returns
returns c =
    ap (λ (wires : Wires). record (the_view c.self.inside) { wires = wires })
    (c.in_ok-tick.ensures
    ∙ ap (λ (site : Site). carried_out (midst_after_tick site.processors c.args.node) c.self.inside.wires)
    c.site.ensures)
    ∙ ap (λ (s : Packeted). record s { wires = carried_out (midst_after_tick s.site.processors c.args.node) s.wires })
    c.self.view_is
