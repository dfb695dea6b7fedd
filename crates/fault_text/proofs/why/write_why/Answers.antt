use Rattle.gd_io.specs.Joining.{puts_both, puts_part, puts_passed_on}
use Rattle.trace_print.specs.FaultLine.{fault_line}
use Rattle.fault_text.proofs.why.write_why.Goals as goal

pub returns-in_err-put_all : goal.returns-in_err-put_all
returns-in_err-put_all g c =
    puts_passed_on g.K.Sink.held g.K.Sink.faults g.K.Sink.sure _ _ _ _ c.from_residual.result c.from_residual.ensures.0
    (puts_part g.K.Sink.held g.K.Sink.faults g.K.Sink.sure _ _ c.args.told.now (fault_line c.args.fault.now) _
    c.in_err-put_all.ensures)

pub returns : goal.returns
returns g c =
    puts_both g.K.Sink.held g.K.Sink.faults g.K.Sink.sure _ _ _ c.args.told.now (fault_line c.args.fault.now) _
    c.in_ok-put_all.ensures c.write_fault.ensures
