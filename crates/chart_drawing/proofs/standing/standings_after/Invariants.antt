use Rattle.std.proofs.Common.{◌≡◌, map, take}
use Rattle.chart_drawing.specs.Standings.{after_all}
use Rattle.chart_drawing.proofs.standing.standings_after.Given as goal

abbrev pub invariant-loop-standing : goal.invariant-loop-standing
invariant-loop-standing l = l.after ≡ map (after_all l.findings) (take l.standing-index l.standings)
