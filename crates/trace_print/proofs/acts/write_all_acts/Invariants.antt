use Rattle.std.proofs.Common.{Ok, take}
use Rattle.gd_io.specs.Puts.{Puts}
use Rattle.trace_print.specs.ActLine.{act_lines}
use Rattle.trace_print.proofs.acts.write_all_acts.Given as goal

-- the lines so far are written
abbrev pub invariant-loop-act : goal.invariant-loop-act
invariant-loop-act g l =
    Puts g.K.Sink.held g.K.Sink.faults g.K.Sink.sure l.fn.sink l.sink (act_lines l.site (take l.act-index l.acts))
    (Ok tt)
