use Rattle.std.proofs.Common.{ℕ, ◌+◌, ◌∷◌, ◌++◌, flat_map, take, drop, get_or}
use Rattle.gd_io.specs.Joining.{puts_both, puts_part, puts_passed_on}
use Rattle.trace_print.specs.VerdictText.{global_name}
use Rattle.trace_print.proofs.Lines.{lines-more, lines-split, got}
use Rattle.trace_print.proofs.advised.write_globals.Goals as goal

pub returns-in_err-write_global : goal.returns-in_err-write_global
returns-in_err-write_global g c =
    let line = λ (item : ℕ). 32 ∷ global_name c.args.site.now c.args.process item in
    let all = c.args.items.now in
    let i = c.loop-item.item-index in
    let one = get_or all i 0 in
    puts_passed_on g.K.Sink.held g.K.Sink.faults g.K.Sink.sure _ _ (flat_map line all) _ c.from_residual.result
    c.from_residual.ensures.0
    (rw (lines-split line all i one c.loop-item-test.true (got all i 0 c.loop-item-test.true))
    (puts_part g.K.Sink.held g.K.Sink.faults g.K.Sink.sure _ _ (flat_map line (take i all) ++ line one)
    (flat_map line (drop (i + 1) all)) _
    (puts_both g.K.Sink.held g.K.Sink.faults g.K.Sink.sure _ _ _ (flat_map line (take i all)) (line one) _
    c.loop-item.invariant c.in_err-write_global.ensures)))

pub loop-item-preserved : goal.loop-item-preserved
loop-item-preserved g c =
    let line = λ (item : ℕ). 32 ∷ global_name c.args.site.now c.args.process item in
    let all = c.args.items.now in
    let i = c.loop-item.item-index in
    let one = get_or all i 0 in
    rw (lines-more line all i one c.loop-item-test.true (got all i 0 c.loop-item-test.true))
    (puts_both g.K.Sink.held g.K.Sink.faults g.K.Sink.sure _ _ _ (flat_map line (take i all)) (line one) _
    c.loop-item.invariant c.in_ok-write_global.ensures)
