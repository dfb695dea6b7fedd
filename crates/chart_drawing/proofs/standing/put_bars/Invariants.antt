use Rattle.std.proofs.Common.{◌≡◌, ◌++◌, map, take}
use Rattle.chart_drawing.specs.Standings.{copy_bar}
use Rattle.chart_drawing.proofs.standing.put_bars.Given as goal

abbrev pub invariant-loop-standing : goal.invariant-loop-standing
invariant-loop-standing l =
    l.shapes ≡ l.initial.shapes ++ map (copy_bar l.layout l.number) (take l.standing-index l.standings)
