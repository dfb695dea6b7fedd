use Rattle.std.proofs.Common.{◌+◌, ◌++◌, flat_map, take, drop}
use Rattle.gd_io.specs.Joining.{puts_both, puts_part, puts_passed_on}
use Rattle.trace_print.specs.AdviceText.{list_line}
use Rattle.trace_print.proofs.Lines.{lines-more, lines-split}
use Rattle.trace_print.proofs.advised.write_all_lists.Goals as goal

pub returns-in_err-write_list : goal.returns-in_err-write_list
returns-in_err-write_list g c =
    let line = list_line c.args.site.now c.args.process in
    let all = c.args.lists.now in
    let i = c.loop-one.one-index in
    let one = c.one-item.result in
    puts_passed_on g.K.Sink.held g.K.Sink.faults g.K.Sink.sure _ _ (flat_map line all) _ c.from_residual.result
    c.from_residual.ensures.0
    (rw (lines-split line all i one c.loop-one-test.true c.one-item.is)
    (puts_part g.K.Sink.held g.K.Sink.faults g.K.Sink.sure _ _ (flat_map line (take i all) ++ line one)
    (flat_map line (drop (i + 1) all)) _
    (puts_both g.K.Sink.held g.K.Sink.faults g.K.Sink.sure _ _ _ (flat_map line (take i all)) (line one) _
    c.loop-one.invariant c.in_err-write_list.ensures)))

pub loop-one-preserved : goal.loop-one-preserved
loop-one-preserved g c =
    let line = list_line c.args.site.now c.args.process in
    let all = c.args.lists.now in
    let i = c.loop-one.one-index in
    let one = c.one-item.result in
    rw (lines-more line all i one c.loop-one-test.true c.one-item.is)
    (puts_both g.K.Sink.held g.K.Sink.faults g.K.Sink.sure _ _ _ (flat_map line (take i all)) (line one) _
    c.loop-one.invariant c.in_ok-write_list.ensures)
