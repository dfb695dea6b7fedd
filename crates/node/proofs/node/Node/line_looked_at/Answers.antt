use Rattle.std.proofs.Common.{◌∙◌, ap}
use Rattle.alive_regroup.specs.Watching as watching
use Rattle.alive_regroup.specs.Watching.{Watching}
use Rattle.event_parts.specs.packet_wires.specs.Lines.{first_held, line_pulled}
use Rattle.event_parts.specs.packet_wires.specs.Nodes.{Node}
use Rattle.node.specs.Calls.{with_watch_changed}
use Rattle.node.proofs.node.Node.line_looked_at.Goals as goal

pub returns : goal.returns
returns c =
    c.first_held.ensures
    ∙ ap (λ (watch : Watching). first_held c.args.me watch 0 16)
    (c.tick.ensures.after ∙ ap watching.after_tick c.watch-later.ensures)
    ∙ ap (λ (node : Node). line_pulled c.args.me (with_watch_changed watching.after_tick node)) c.self.view_is
