use Rattle.std.proofs.Common.{◌+◌, ◌++◌, flat_map, take, drop}
use Rattle.gd_io.specs.Joining.{puts_both, puts_part, puts_passed_on}
use Rattle.trace_print.specs.ShownLine.{shown_line}
use Rattle.trace_print.proofs.Lines.{lines-more, lines-split}
use Rattle.trace_print.proofs.shown.write_all_shown.Goals as goal

pub returns-in_err-write_shown : goal.returns-in_err-write_shown
returns-in_err-write_shown g c =
    let line = shown_line c.args.site.now in
    let shown = c.args.shown.now in
    let i = c.loop-one.one-index in
    puts_passed_on g.K.Sink.held g.K.Sink.faults g.K.Sink.sure _ _ (flat_map line shown) _ c.from_residual.result
    c.from_residual.ensures.0
    (rw (lines-split line shown i c.one-item.result c.loop-one-test.true c.one-item.is)
    (puts_part g.K.Sink.held g.K.Sink.faults g.K.Sink.sure _ _ (flat_map line (take i shown) ++ line c.one-item.result)
    (flat_map line (drop (i + 1) shown)) _
    (puts_both g.K.Sink.held g.K.Sink.faults g.K.Sink.sure _ _ _ (flat_map line (take i shown))
    (line c.one-item.result) _
    c.loop-one.invariant c.in_err-write_shown.ensures)))

pub loop-one-preserved : goal.loop-one-preserved
loop-one-preserved g c =
    let line = shown_line c.args.site.now in
    let shown = c.args.shown.now in
    let i = c.loop-one.one-index in
    rw (lines-more line shown i c.one-item.result c.loop-one-test.true c.one-item.is)
    (puts_both g.K.Sink.held g.K.Sink.faults g.K.Sink.sure _ _ _ (flat_map line (take i shown))
    (line c.one-item.result) _
    c.loop-one.invariant c.in_ok-write_shown.ensures)
