use Rattle.gd_io.specs.Joining.{puts_both, puts_part, puts_passed_on}
use Rattle.trace_print.specs.EndLine.{end_line}
use Rattle.trace_print.specs.RowLine.{row_lines}
use Rattle.trace_print.specs.declared.closing.End.TheVariants as end
use Rattle.trace_print.proofs.rows.write_sweep.Goals as goal

pub returns-in_err-write_all_rows : goal.returns-in_err-write_all_rows
returns-in_err-write_all_rows g c =
    puts_passed_on g.K.Sink.held g.K.Sink.faults g.K.Sink.sure _ _ _ _ c.from_residual.result c.from_residual.ensures.0
    (puts_part g.K.Sink.held g.K.Sink.faults g.K.Sink.sure _ _ (row_lines c.args.rows.now) (end_line end.Swept) _
    c.in_err-write_all_rows.ensures)

pub returns : goal.returns
returns g c =
    puts_both g.K.Sink.held g.K.Sink.faults g.K.Sink.sure _ _ _ (row_lines c.args.rows.now) (end_line end.Swept) _
    c.in_ok-write_all_rows.ensures c.write_end.ensures
