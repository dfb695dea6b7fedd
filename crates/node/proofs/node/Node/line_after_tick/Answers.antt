use Rattle.std.proofs.Common.{◌∙◌, ap, sym}
use Rattle.alive_regroup.specs.Watching as watching
use Rattle.alive_regroup.proofs.NoneMissed.{none-held}
use Rattle.event_parts.specs.packet_wires.specs.Nodes.{Node}
use Rattle.node.proofs.Lines.{none-first}
use Rattle.node.proofs.node.Node.line_after_tick.Goals as goal

pub returns-then-is_calm : goal.returns-then-is_calm
returns-then-is_calm c =
    none-first c.args.me (watching.after_tick c.args.self.now.watch) 0 16
    (none-held c.args.self.now.watch
    (ap (λ (node : Node). watching.misses_none node.watch) (sym c.self.view_is) ∙ c.if-is_calm.ensures))
