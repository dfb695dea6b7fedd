use Rattle.gd_io.specs.Joining.{puts_both, puts_part, puts_passed_on}
use Rattle.trace_print.specs.AdviceText.{pair_texts}
use Rattle.trace_print.specs.EndLine.{end_line}
use Rattle.trace_print.specs.declared.closing.End.TheVariants as end
use Rattle.trace_print.proofs.advised.write_advised.Goals as goal

pub returns-in_err-write_all_pairs : goal.returns-in_err-write_all_pairs
returns-in_err-write_all_pairs g c =
    puts_passed_on g.K.Sink.held g.K.Sink.faults g.K.Sink.sure _ _ _ _ c.from_residual.result c.from_residual.ensures.0
    (puts_part g.K.Sink.held g.K.Sink.faults g.K.Sink.sure _ _
    (pair_texts c.args.site.now c.args.pairs.now)
    (end_line end.Advised) _
    c.in_err-write_all_pairs.ensures)

pub returns : goal.returns
returns g c =
    puts_both g.K.Sink.held g.K.Sink.faults g.K.Sink.sure _ _ _
    (pair_texts c.args.site.now c.args.pairs.now)
    (end_line end.Advised) _
    c.in_ok-write_all_pairs.ensures c.write_end.ensures
