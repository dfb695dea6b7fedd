use Rattle.std.proofs.Common.{◌∙◌, sym}
use Rattle.machine_views.specs.Views.{downs_by}
use Rattle.machine_views.proofs.Each.{number-step, numbers-end}
use Rattle.machine_views.proofs.nodes.down.Goals as goal

pub loop-node-preserved : goal.loop-node-preserved
loop-node-preserved c =
    c.loop-node.invariant
    ∙ number-step (downs_by c.args.downs.now) c.loop-node.node 17 c.loop-node.down c.add_downs.new.down
    c.loop-node-test.true c.in_ok-add_downs.ensures

pub returns : goal.returns
returns c =
    sym (c.loop-node.invariant ∙ numbers-end (downs_by c.args.downs.now) c.loop-node.node 17 c.loop-node.down
    c.loop-node-test.false)
