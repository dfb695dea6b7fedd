use Rattle.std.proofs.Common.{◌+◌, ◌++◌, flat_map, take, drop, get_or}
use Rattle.gd_io.specs.Joining.{puts_both, puts_part, puts_passed_on}
use Rattle.trace_print.specs.VerdictText.{step_line}
use Rattle.trace_print.proofs.Lines.{lines-more, lines-split, got}
use Rattle.trace_print.proofs.verdict.write_path.Goals as goal

pub returns-in_err-write_step : goal.returns-in_err-write_step
returns-in_err-write_step g c =
    let line = step_line c.args.lines.now in
    let all = c.args.path.now in
    let i = c.loop-number.number-index in
    let one = get_or all i 0 in
    puts_passed_on g.K.Sink.held g.K.Sink.faults g.K.Sink.sure _ _ (flat_map line all) _ c.from_residual.result
    c.from_residual.ensures.0
    (rw (lines-split line all i one c.loop-number-test.true (got all i 0 c.loop-number-test.true))
    (puts_part g.K.Sink.held g.K.Sink.faults g.K.Sink.sure _ _ (flat_map line (take i all) ++ line one)
    (flat_map line (drop (i + 1) all)) _
    (puts_both g.K.Sink.held g.K.Sink.faults g.K.Sink.sure _ _ _ (flat_map line (take i all)) (line one) _
    c.loop-number.invariant c.in_err-write_step.ensures)))

pub loop-number-preserved : goal.loop-number-preserved
loop-number-preserved g c =
    let line = step_line c.args.lines.now in
    let all = c.args.path.now in
    let i = c.loop-number.number-index in
    let one = get_or all i 0 in
    rw (lines-more line all i one c.loop-number-test.true (got all i 0 c.loop-number-test.true))
    (puts_both g.K.Sink.held g.K.Sink.faults g.K.Sink.sure _ _ _ (flat_map line (take i all)) (line one) _
    c.loop-number.invariant c.in_ok-write_step.ensures)
