use Rattle.std.proofs.Common.{Ok, take}
use Rattle.gd_io.specs.Puts.{Puts}
use Rattle.trace_print.specs.AdviceText.{depth_lines}
use Rattle.trace_print.proofs.advised.write_depths.Given as goal

-- the lines so far are written
abbrev pub invariant-loop-file : goal.invariant-loop-file
invariant-loop-file g l = Puts g.K.Sink.held g.K.Sink.faults g.K.Sink.sure l.fn.sink l.sink
    (depth_lines l.site l.process 0 (take l.file l.depths)) (Ok tt)
