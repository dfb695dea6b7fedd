use Rattle.std.proofs.Common.{◌≡◌, ◌++◌, take}
use Rattle.chart_drawing.specs.Groups.{all_shown}
use Rattle.chart_drawing.proofs.groups.put_shown.Given as goal

abbrev pub invariant-loop-one : goal.invariant-loop-one
invariant-loop-one l =
    l.shapes ≡ l.initial.shapes ++ all_shown l.layout l.standings l.ways l.number (take l.one-index l.shown)
