use Rattle.std.proofs.Common.{◌≡◌, ◌++◌, take}
use Rattle.chart_drawing.specs.Groups.{all_found}
use Rattle.chart_drawing.proofs.groups.put_found.Given as goal

abbrev pub invariant-loop-finding : goal.invariant-loop-finding
invariant-loop-finding l = l.shapes
    ≡ l.initial.shapes ++ all_found l.layout l.standings l.ways l.number l.event (take l.finding-index l.findings)
