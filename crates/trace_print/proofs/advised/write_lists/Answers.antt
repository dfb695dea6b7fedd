use Rattle.gd_io.specs.Joining.{puts_both, puts_part, puts_passed_on}
use Rattle.trace_print.specs.AdviceText.{advice_line, list_lines}
use Rattle.trace_print.proofs.advised.write_lists.Goals as goal

pub returns-in_err-write_name : goal.returns-in_err-write_name
returns-in_err-write_name g c =
    puts_passed_on g.K.Sink.held g.K.Sink.faults g.K.Sink.sure _ _ _ _ c.from_residual.result c.from_residual.ensures.0
    (puts_part g.K.Sink.held g.K.Sink.faults g.K.Sink.sure _ _
    (advice_line c.args.site.now c.args.process)
    (list_lines c.args.site.now c.args.process c.args.lists.now) _
    c.in_err-write_name.ensures)

pub returns : goal.returns
returns g c =
    puts_both g.K.Sink.held g.K.Sink.faults g.K.Sink.sure _ _ _
    (advice_line c.args.site.now c.args.process)
    (list_lines c.args.site.now c.args.process c.args.lists.now) _
    c.in_ok-write_name.ensures c.write_all_lists.ensures
