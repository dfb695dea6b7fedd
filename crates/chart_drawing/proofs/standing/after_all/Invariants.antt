use Rattle.std.proofs.Common.{◌≡◌, length}
use Rattle.chart_drawing.specs.Standings.{after_all}
use Rattle.chart_drawing.proofs.standing.after_all.Given as goal

abbrev pub invariant-loop-finding : goal.invariant-loop-finding
invariant-loop-finding l = after_all l.left l.now ≡ after_all l.findings l.fn.standing

abbrev pub decreases-loop-finding : goal.decreases-loop-finding
decreases-loop-finding l = length l.left
