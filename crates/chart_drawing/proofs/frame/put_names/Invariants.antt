use Rattle.std.proofs.Common.{◌≡◌, ◌++◌, ◌-◌, flat_map}
use Rattle.std.specs.List.{range_with_len}
use Rattle.chart_drawing.specs.Frame.{all_names, names_of}
use Rattle.chart_drawing.proofs.frame.put_names.Given as goal

abbrev pub invariant-loop-process : goal.invariant-loop-process
invariant-loop-process l = l.fn.shapes ++ all_names l.layout l.site
    ≡ l.shapes ++ flat_map (names_of l.layout l.site) (range_with_len l.process (l.layout.processes - l.process))
