use Rattle.std.proofs.Common.{◌≡◌, ◌<◌, List, length, arith, ap, subst}
use Rattle.flow_paths.specs.Graph.{Node, IsWithin}
use Rattle.flow_paths.proofs.Nodes.{node-within}
use Rattle.flow_paths.proofs.flow.Flow.node.Goals as goal

pub returns-clause-within : goal.returns-clause-within
returns-clause-within c =
    let same : length c.self.inside.nodes.items ≡ length c.args.self.now = ap length c.self.view_is in
    let below : c.from.result < length c.self.inside.nodes.items = omega (arith, c.requires, c.from.ensures) in
    subst (λ (nodes : List Node). IsWithin (length nodes) c.index.result.now) c.self.view_is
    (node-within c.self.inside.nodes.items c.from.result c.index.result.now below c.index.ensures c.self.invariant.1)
