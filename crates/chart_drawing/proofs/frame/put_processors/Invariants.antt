use Rattle.std.proofs.Common.{◌≡◌, ◌++◌, ◌-◌, flat_map}
use Rattle.std.specs.List.{range_with_len}
use Rattle.chart_drawing.specs.Frame.{lane_shapes, processor_lanes}
use Rattle.chart_drawing.proofs.frame.put_processors.Given as goal

abbrev pub invariant-loop-node : goal.invariant-loop-node
invariant-loop-node l = l.fn.shapes ++ processor_lanes l.layout l.bottom
    ≡ l.shapes ++ flat_map (lane_shapes l.layout l.bottom) (range_with_len l.node (l.layout.processors - l.node))
