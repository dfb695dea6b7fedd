use Rattle.std.proofs.Common.{◌∙◌}
use Rattle.machine_views.specs.Views.{down_of}
use Rattle.machine_views.proofs.Each.{number-step}
use Rattle.machine_views.proofs.nodes.add_downs.Goals as goal

pub loop-processor-preserved : goal.loop-processor-preserved
loop-processor-preserved c =
    c.loop-processor.invariant
    ∙ number-step (down_of c.args.downs.now c.args.node) c.loop-processor.processor 16 c.loop-processor.down
    c.add_down.new.down c.loop-processor-test.true c.in_ok-add_down.ensures
