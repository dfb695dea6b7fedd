use Rattle.std.proofs.Common.{Ok, take}
use Rattle.gd_io.specs.Puts.{Puts}
use Rattle.trace_print.specs.StopLine.{stop_lines}
use Rattle.trace_print.proofs.stops.write_all_stops.Given as goal

-- the lines so far are written
abbrev pub invariant-loop-processor : goal.invariant-loop-processor
invariant-loop-processor g l =
    Puts g.K.Sink.held g.K.Sink.faults g.K.Sink.sure l.fn.sink l.sink (stop_lines (take l.processor-index l.stopped))
    (Ok tt)
