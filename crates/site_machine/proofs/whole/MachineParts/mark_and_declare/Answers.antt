use Rattle.std.proofs.Common.{◌∙◌, ap, subst, sym}
use Rattle.node.specs.packet_wires.specs.Play.{Packeted, underway, marks}
use Rattle.node.specs.packet_wires.specs.Wires.{declares}
use Rattle.node.specs.event_parts.specs.Numbers.{CanPush}
use Rattle.node.specs.event_parts.specs.Parts.{carried_out}
use Rattle.site_machine.proofs.Turns.{can-marks, declared-after}
use Rattle.site_machine.proofs.whole.MachineParts.mark_and_declare.Goals as goal

pub declare-requires : goal.declare-requires
declare-requires c =
    subst (λ (s : Packeted). CanPush s.wires.nodes) (sym c.in_ok-mark.ensures)
    (can-marks c.args.node c.args.processor c.args.self.now c.requires.numbered)

pub returns : goal.returns
returns c =
    c.in_ok-declare.ensures
    ∙ ap (λ (s : Packeted). record s
    { wires = carried_out (declares s.site.processors c.args.node c.args.processor) s.wires }) c.in_ok-mark.ensures
    ∙ declared-after c.args.node c.args.processor c.args.self.now
    (marks c.args.node c.args.processor (underway c.args.self.now))
