use Rattle.std.proofs.Common.{Ok, take}
use Rattle.gd_io.specs.Puts.{Puts}
use Rattle.trace_print.specs.ShownLine.{shown_lines}
use Rattle.trace_print.proofs.shown.write_all_shown.Given as goal

-- the lines so far are written
abbrev pub invariant-loop-one : goal.invariant-loop-one
invariant-loop-one g l =
    Puts g.K.Sink.held g.K.Sink.faults g.K.Sink.sure l.fn.sink l.sink (shown_lines l.site (take l.one-index l.shown))
    (Ok tt)
