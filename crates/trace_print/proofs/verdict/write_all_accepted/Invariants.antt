use Rattle.std.proofs.Common.{Ok, take}
use Rattle.gd_io.specs.Puts.{Puts}
use Rattle.trace_print.specs.VerdictText.{accepted_lines}
use Rattle.trace_print.proofs.verdict.write_all_accepted.Given as goal

-- the lines so far are written
abbrev pub invariant-loop-spec : goal.invariant-loop-spec
invariant-loop-spec g l = Puts g.K.Sink.held g.K.Sink.faults g.K.Sink.sure l.fn.sink l.sink
    (accepted_lines (take l.spec-index l.specs)) (Ok tt)
