use Rattle.std.proofs.Common.{◌∙◌, ap}
use Rattle.alive_regroup.specs.Watching.{Watching}
use Rattle.event_parts.specs.packet_wires.specs.Lines.{first_held, line_pulled}
use Rattle.event_parts.specs.packet_wires.specs.Nodes.{Node}
use Rattle.node.proofs.node.Node.line.Goals as goal

pub returns : goal.returns
returns c =
    c.first_held.ensures
    ∙ ap (λ (watch : Watching). first_held c.args.me watch 0 16) c.watch.ensures
    ∙ ap (λ (node : Node). line_pulled c.args.me node) c.self.view_is
