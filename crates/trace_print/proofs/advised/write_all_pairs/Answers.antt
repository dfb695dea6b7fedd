use Rattle.std.proofs.Common.{◌+◌, ◌++◌, flat_map, take, drop}
use Rattle.gd_io.specs.Joining.{puts_both, puts_part, puts_passed_on}
use Rattle.trace_print.specs.AdviceText.{pair_text}
use Rattle.trace_print.proofs.Lines.{lines-more, lines-split}
use Rattle.trace_print.proofs.advised.write_all_pairs.Goals as goal

pub returns-in_err-write_pair : goal.returns-in_err-write_pair
returns-in_err-write_pair g c =
    let line = pair_text c.args.site.now in
    let all = c.args.pairs.now in
    let i = c.loop-pair.pair-index in
    let one = c.pair-item.result in
    puts_passed_on g.K.Sink.held g.K.Sink.faults g.K.Sink.sure _ _ (flat_map line all) _ c.from_residual.result
    c.from_residual.ensures.0
    (rw (lines-split line all i one c.loop-pair-test.true c.pair-item.is)
    (puts_part g.K.Sink.held g.K.Sink.faults g.K.Sink.sure _ _ (flat_map line (take i all) ++ line one)
    (flat_map line (drop (i + 1) all)) _
    (puts_both g.K.Sink.held g.K.Sink.faults g.K.Sink.sure _ _ _ (flat_map line (take i all)) (line one) _
    c.loop-pair.invariant c.in_err-write_pair.ensures)))

pub loop-pair-preserved : goal.loop-pair-preserved
loop-pair-preserved g c =
    let line = pair_text c.args.site.now in
    let all = c.args.pairs.now in
    let i = c.loop-pair.pair-index in
    let one = c.pair-item.result in
    rw (lines-more line all i one c.loop-pair-test.true c.pair-item.is)
    (puts_both g.K.Sink.held g.K.Sink.faults g.K.Sink.sure _ _ _ (flat_map line (take i all)) (line one) _
    c.loop-pair.invariant c.in_ok-write_pair.ensures)
