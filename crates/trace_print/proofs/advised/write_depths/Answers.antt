use Rattle.std.proofs.Common.{◌+◌, ◌++◌, take, drop, get_or}
use Rattle.gd_io.specs.Joining.{puts_both, puts_part, puts_passed_on}
use Rattle.trace_print.specs.AdviceText.{depth_line, depth_lines}
use Rattle.trace_print.proofs.Depths.{depths-more, depths-split}
use Rattle.trace_print.proofs.Lines.{got}
use Rattle.trace_print.proofs.advised.write_depths.Goals as goal

pub returns-in_err-write_depth : goal.returns-in_err-write_depth
returns-in_err-write_depth g c =
    let site = c.args.site.now in
    let process = c.args.process in
    let all = c.args.depths.now in
    let i = c.loop-file.file in
    let one = get_or all i 0 in
    puts_passed_on g.K.Sink.held g.K.Sink.faults g.K.Sink.sure _ _ (depth_lines site process 0 all) _
    c.from_residual.result
    c.from_residual.ensures.0
    (rw (depths-split site process all i one c.loop-file-test.true (got all i 0 c.loop-file-test.true))
    (puts_part g.K.Sink.held g.K.Sink.faults g.K.Sink.sure _ _
    (depth_lines site process 0 (take i all) ++ depth_line site process i one)
    (depth_lines site process (i + 1) (drop (i + 1) all)) _
    (puts_both g.K.Sink.held g.K.Sink.faults g.K.Sink.sure _ _ _ (depth_lines site process 0 (take i all))
    (depth_line site process i one) _
    c.loop-file.invariant c.in_err-write_depth.ensures)))

pub loop-file-preserved : goal.loop-file-preserved
loop-file-preserved g c =
    let site = c.args.site.now in
    let process = c.args.process in
    let all = c.args.depths.now in
    let i = c.loop-file.file in
    let one = get_or all i 0 in
    rw (depths-more site process all i one c.loop-file-test.true (got all i 0 c.loop-file-test.true))
    (puts_both g.K.Sink.held g.K.Sink.faults g.K.Sink.sure _ _ _ (depth_lines site process 0 (take i all))
    (depth_line site process i one) _
    c.loop-file.invariant c.in_ok-write_depth.ensures)
