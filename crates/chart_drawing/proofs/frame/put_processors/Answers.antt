use Rattle.std.proofs.Common.{◌∙◌}
use Rattle.chart_drawing.specs.Frame.{lane_shapes}
use Rattle.chart_drawing.proofs.Ranges.{range-step}
use Rattle.chart_drawing.proofs.frame.put_processors.Goals as goal

pub loop-node-preserved : goal.loop-node-preserved
loop-node-preserved c =
    c.loop-node.invariant
    ∙ range-step (lane_shapes c.args.layout c.args.bottom) c.loop-node.node c.args.layout.processors c.loop-node.shapes
    c.put_lane.new.shapes c.loop-node-test.true c.in_ok-put_lane.ensures
