use Rattle.std.proofs.Common.{◌≡◌, ◌++◌, take}
use Rattle.chart_drawing.specs.Ways.{ways_by}
use Rattle.chart_drawing.proofs.ways.put_ways.Given as goal

abbrev pub invariant-loop-finding : goal.invariant-loop-finding
invariant-loop-finding l = l.ways ≡ l.initial.ways ++ ways_by l.event (take l.finding-index l.findings)
