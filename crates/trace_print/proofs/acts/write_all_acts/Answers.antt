use Rattle.std.proofs.Common.{◌+◌, ◌++◌, flat_map, take, drop, get_or}
use Rattle.tal_tree.specs.declared.act.Act.TheVariants.{Step}
use Rattle.gd_io.specs.Joining.{puts_both, puts_part, puts_passed_on}
use Rattle.trace_print.specs.ActLine.{act_line}
use Rattle.trace_print.proofs.Lines.{lines-more, lines-split, got}
use Rattle.trace_print.proofs.acts.write_all_acts.Goals as goal

pub returns-in_err-write_act : goal.returns-in_err-write_act
returns-in_err-write_act g c =
    let line = act_line c.args.site.now in
    let all = c.args.acts.now in
    let i = c.loop-act.act-index in
    let one = get_or all i (Step 0) in
    puts_passed_on g.K.Sink.held g.K.Sink.faults g.K.Sink.sure _ _ (flat_map line all) _ c.from_residual.result
    c.from_residual.ensures.0
    (rw (lines-split line all i one c.loop-act-test.true (got all i (Step 0) c.loop-act-test.true))
    (puts_part g.K.Sink.held g.K.Sink.faults g.K.Sink.sure _ _ (flat_map line (take i all) ++ line one)
    (flat_map line (drop (i + 1) all)) _
    (puts_both g.K.Sink.held g.K.Sink.faults g.K.Sink.sure _ _ _ (flat_map line (take i all)) (line one) _
    c.loop-act.invariant c.in_err-write_act.ensures)))

pub loop-act-preserved : goal.loop-act-preserved
loop-act-preserved g c =
    let line = act_line c.args.site.now in
    let all = c.args.acts.now in
    let i = c.loop-act.act-index in
    let one = get_or all i (Step 0) in
    rw (lines-more line all i one c.loop-act-test.true (got all i (Step 0) c.loop-act-test.true))
    (puts_both g.K.Sink.held g.K.Sink.faults g.K.Sink.sure _ _ _ (flat_map line (take i all)) (line one) _
    c.loop-act.invariant c.in_ok-write_act.ensures)
