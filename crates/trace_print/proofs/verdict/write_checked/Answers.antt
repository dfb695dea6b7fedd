use Rattle.gd_io.specs.Joining.{puts_both, puts_part, puts_passed_on}
use Rattle.trace_print.specs.EndLine.{end_line}
use Rattle.trace_print.specs.VerdictText.{accepted_lines}
use Rattle.trace_print.specs.declared.closing.End.TheVariants as end
use Rattle.trace_print.proofs.verdict.write_checked.Goals as goal

pub returns-in_err-write_all_accepted : goal.returns-in_err-write_all_accepted
returns-in_err-write_all_accepted g c =
    puts_passed_on g.K.Sink.held g.K.Sink.faults g.K.Sink.sure _ _ _ _ c.from_residual.result c.from_residual.ensures.0
    (puts_part g.K.Sink.held g.K.Sink.faults g.K.Sink.sure _ _ (accepted_lines c.args.site.now.processes)
    (end_line end.Checked) _
    (rw c.as_slice.ensures at c.in_err-write_all_accepted.ensures))

pub returns : goal.returns
returns g c =
    puts_both g.K.Sink.held g.K.Sink.faults g.K.Sink.sure _ _ _ (accepted_lines c.args.site.now.processes)
    (end_line end.Checked) _
    (rw c.as_slice.ensures at c.in_ok-write_all_accepted.ensures) c.write_end.ensures
