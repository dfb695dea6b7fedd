use Rattle.std.proofs.Common.{◌+◌, ◌++◌, flat_map, take, drop, get_or}
use Rattle.gd_io.specs.Joining.{puts_both, puts_part, puts_passed_on}
use Rattle.mirror.specs.declared.state.DriveState.TheVariants.{Working}
use Rattle.trace_print.specs.MirrorLine.{mirror_line}
use Rattle.trace_print.proofs.Lines.{lines-more, lines-split, got}
use Rattle.trace_print.proofs.mirrors.write_all_mirrors.Goals as goal

pub returns-in_err-write_mirror : goal.returns-in_err-write_mirror
returns-in_err-write_mirror g c =
    let line = mirror_line c.args.site.now in
    let all = c.args.mirrors.now in
    let i = c.loop-drives.drives-index in
    let one = get_or all i (record { process = 0; first = Working; second = Working }) in
    puts_passed_on g.K.Sink.held g.K.Sink.faults g.K.Sink.sure _ _ (flat_map line all) _ c.from_residual.result
    c.from_residual.ensures.0
    (rw (lines-split line all i one c.loop-drives-test.true
    (got all i (record { process = 0; first = Working; second = Working }) c.loop-drives-test.true))
    (puts_part g.K.Sink.held g.K.Sink.faults g.K.Sink.sure _ _ (flat_map line (take i all) ++ line one)
    (flat_map line (drop (i + 1) all)) _
    (puts_both g.K.Sink.held g.K.Sink.faults g.K.Sink.sure _ _ _ (flat_map line (take i all)) (line one) _
    c.loop-drives.invariant c.in_err-write_mirror.ensures)))

pub loop-drives-preserved : goal.loop-drives-preserved
loop-drives-preserved g c =
    let line = mirror_line c.args.site.now in
    let all = c.args.mirrors.now in
    let i = c.loop-drives.drives-index in
    let one = get_or all i (record { process = 0; first = Working; second = Working }) in
    rw (lines-more line all i one c.loop-drives-test.true
    (got all i (record { process = 0; first = Working; second = Working }) c.loop-drives-test.true))
    (puts_both g.K.Sink.held g.K.Sink.faults g.K.Sink.sure _ _ _ (flat_map line (take i all)) (line one) _
    c.loop-drives.invariant c.in_ok-write_mirror.ensures)
