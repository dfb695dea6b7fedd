use Rattle.gd_io.specs.Joining.{puts_both, puts_part, puts_passed_on}
use Rattle.trace_print.specs.VerdictText.{path_of, refused_line, step_lines}
use Rattle.trace_print.proofs.verdict.write_cause.Goals as goal

pub returns-in_err-write_refused : goal.returns-in_err-write_refused
returns-in_err-write_refused g c =
    puts_passed_on g.K.Sink.held g.K.Sink.faults g.K.Sink.sure _ _ _ _ c.from_residual.result c.from_residual.ensures.0
    (puts_part g.K.Sink.held g.K.Sink.faults g.K.Sink.sure _ _
    (refused_line c.args.site.now c.args.process c.args.refusal.now)
    (step_lines c.args.lines.now (path_of c.args.refusal.now)) _
    c.in_err-write_refused.ensures)

pub returns : goal.returns
returns g c =
    puts_both g.K.Sink.held g.K.Sink.faults g.K.Sink.sure _ _ _
    (refused_line c.args.site.now c.args.process c.args.refusal.now)
    (step_lines c.args.lines.now (path_of c.args.refusal.now)) _
    c.in_ok-write_refused.ensures (rw c.path_of.ensures at c.write_path.ensures)
