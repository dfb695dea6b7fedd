use Rattle.std.specs.Prelude.{◌++◌}
use Rattle.gd_io.specs.Joining.{puts_both, puts_part, puts_passed_on}
use Rattle.trace_print.specs.EndLine.{end_line}
use Rattle.trace_print.specs.VerdictText.{path_of, refused_line, step_lines}
use Rattle.trace_print.specs.declared.closing.End.TheVariants as end
use Rattle.trace_print.proofs.verdict.write_refusal.Goals as goal

pub returns-in_err-write_cause : goal.returns-in_err-write_cause
returns-in_err-write_cause g c =
    puts_passed_on g.K.Sink.held g.K.Sink.faults g.K.Sink.sure _ _ _ _ c.from_residual.result c.from_residual.ensures.0
    (puts_part g.K.Sink.held g.K.Sink.faults g.K.Sink.sure _ _
    (refused_line c.args.site.now c.args.process c.args.refusal.now
    ++ step_lines c.args.lines.now (path_of c.args.refusal.now)) (end_line end.Refused) _
    c.in_err-write_cause.ensures)

pub returns : goal.returns
returns g c =
    puts_both g.K.Sink.held g.K.Sink.faults g.K.Sink.sure _ _ _
    (refused_line c.args.site.now c.args.process c.args.refusal.now
    ++ step_lines c.args.lines.now (path_of c.args.refusal.now)) (end_line end.Refused) _
    c.in_ok-write_cause.ensures c.write_end.ensures
