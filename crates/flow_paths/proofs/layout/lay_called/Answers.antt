use Rattle.std.proofs.Common.{◌≤◌, length, arith}
use Rattle.flow_paths.proofs.Nodes.{node-within, within-more}
use Rattle.flow_paths.proofs.layout.lay_called.Goals as goal

pub moved-requires-clause-within : goal.moved-requires-clause-within
moved-requires-clause-within c =
    let few : length c.args.called.now ≤ 8192 = omega (arith, c.requires.room) in
    within-more (length c.args.called.now) 8192 c.node-item.result few
    (node-within c.args.called.now c.loop-node.node-index c.node-item.result c.loop-node-test.true c.node-item.is
    c.requires.closed)
