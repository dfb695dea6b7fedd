use Rattle.std.proofs.Common.{◌≡◌, length}
use Rattle.chart_drawing.specs.Ways.{first_begun}
use Rattle.chart_drawing.proofs.ways.first_begun.Given as goal

abbrev pub invariant-loop-way : goal.invariant-loop-way
invariant-loop-way l = first_begun l.packet l.left ≡ first_begun l.packet l.ways

abbrev pub decreases-loop-way : goal.decreases-loop-way
decreases-loop-way l = length l.left
