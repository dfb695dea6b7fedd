use Rattle.std.proofs.Common.{◌≡◌, ◌++◌, ◌-◌, flat_map}
use Rattle.std.specs.List.{range_with_len}
use Rattle.chart_drawing.specs.Standings.{copies_of, standings_at_boot}
use Rattle.chart_drawing.proofs.standing.standings_at_boot.Given as goal

abbrev pub invariant-loop-process : goal.invariant-loop-process
invariant-loop-process l = standings_at_boot l.fn.layout l.site
    ≡ l.standings ++ flat_map (copies_of l.site) (range_with_len l.process (l.fn.layout.processes - l.process))
