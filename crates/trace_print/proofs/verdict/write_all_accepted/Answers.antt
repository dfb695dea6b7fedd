use Rattle.std.proofs.Common.{◌+◌, ◌++◌, flat_map, take, drop}
use Rattle.gd_io.specs.Joining.{puts_both, puts_part, puts_passed_on}
use Rattle.trace_print.specs.VerdictText.{accepted_line}
use Rattle.trace_print.proofs.Lines.{lines-more, lines-split}
use Rattle.trace_print.proofs.verdict.write_all_accepted.Goals as goal

pub returns-in_err-write_accepted : goal.returns-in_err-write_accepted
returns-in_err-write_accepted g c =
    let line = accepted_line in
    let all = c.args.specs.now in
    let i = c.loop-spec.spec-index in
    let one = c.spec-item.result in
    puts_passed_on g.K.Sink.held g.K.Sink.faults g.K.Sink.sure _ _ (flat_map line all) _ c.from_residual.result
    c.from_residual.ensures.0
    (rw (lines-split line all i one c.loop-spec-test.true c.spec-item.is)
    (puts_part g.K.Sink.held g.K.Sink.faults g.K.Sink.sure _ _ (flat_map line (take i all) ++ line one)
    (flat_map line (drop (i + 1) all)) _
    (puts_both g.K.Sink.held g.K.Sink.faults g.K.Sink.sure _ _ _ (flat_map line (take i all)) (line one) _
    c.loop-spec.invariant c.in_err-write_accepted.ensures)))

pub loop-spec-preserved : goal.loop-spec-preserved
loop-spec-preserved g c =
    let line = accepted_line in
    let all = c.args.specs.now in
    let i = c.loop-spec.spec-index in
    let one = c.spec-item.result in
    rw (lines-more line all i one c.loop-spec-test.true c.spec-item.is)
    (puts_both g.K.Sink.held g.K.Sink.faults g.K.Sink.sure _ _ _ (flat_map line (take i all)) (line one) _
    c.loop-spec.invariant c.in_ok-write_accepted.ensures)
