use Rattle.std.specs.Prelude.{◌++◌}
use Rattle.gd_io.specs.Joining.{puts_both, puts_part, puts_passed_on}
use Rattle.trace_print.specs.AdviceText.{advice_line, list_lines, depth_lines}
use Rattle.trace_print.proofs.advised.write_pair.Goals as goal

pub returns-in_err-write_lists : goal.returns-in_err-write_lists
returns-in_err-write_lists g c =
    puts_passed_on g.K.Sink.held g.K.Sink.faults g.K.Sink.sure _ _ _ _ c.from_residual.result c.from_residual.ensures.0
    (puts_part g.K.Sink.held g.K.Sink.faults g.K.Sink.sure _ _
    (advice_line c.args.site.now c.args.pair.now.process ++ list_lines c.args.site.now c.args.pair.now.process
    c.args.pair.now.advice.lists)
    (depth_lines c.args.site.now c.args.pair.now.process 0 c.args.pair.now.advice.depths) _
    (rw c.as_slice.ensures at c.in_err-write_lists.ensures))

pub returns : goal.returns
returns g c =
    puts_both g.K.Sink.held g.K.Sink.faults g.K.Sink.sure _ _ _
    (advice_line c.args.site.now c.args.pair.now.process ++ list_lines c.args.site.now c.args.pair.now.process
    c.args.pair.now.advice.lists)
    (depth_lines c.args.site.now c.args.pair.now.process 0 c.args.pair.now.advice.depths) _
    (rw c.as_slice.ensures at c.in_ok-write_lists.ensures) (rw c.as_slice-2.ensures at c.write_depths.ensures)
