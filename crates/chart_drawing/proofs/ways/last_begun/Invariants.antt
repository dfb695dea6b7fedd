use Rattle.std.proofs.Common.{◌≡◌, None, length}
use Rattle.chart_drawing.specs.Ways.{last_begun}
use Rattle.chart_drawing.proofs.ways.last_begun.Given as goal

abbrev pub invariant-loop-way : goal.invariant-loop-way
invariant-loop-way l = last_begun l.packet l.found l.left ≡ last_begun l.packet None l.ways

abbrev pub decreases-loop-way : goal.decreases-loop-way
decreases-loop-way l = length l.left
