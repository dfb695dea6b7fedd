use Rattle.std.proofs.Common.{◌≡◌, length}
use Rattle.chart_drawing.specs.Standings.{acting_in}
use Rattle.chart_drawing.proofs.standing.acting_in.Given as goal

abbrev pub invariant-loop-standing : goal.invariant-loop-standing
invariant-loop-standing l = acting_in l.process l.left ≡ acting_in l.process l.standings

abbrev pub decreases-loop-standing : goal.decreases-loop-standing
decreases-loop-standing l = length l.left
