use Rattle.std.proofs.Common.{◌+◌, ◌++◌, [], flat_map, take, drop, get_or}
use Rattle.gd_io.specs.Joining.{puts_both, puts_part, puts_passed_on}
use Rattle.trace_print.specs.SectorLine.{sector_line}
use Rattle.trace_print.proofs.Lines.{lines-more, lines-split, got}
use Rattle.trace_print.proofs.sectors.write_all_sectors.Goals as goal

pub returns-in_err-write_sector : goal.returns-in_err-write_sector
returns-in_err-write_sector g c =
    let line = sector_line c.args.site.now in
    let all = c.args.sectors.now in
    let i = c.loop-written.written-index in
    let one = get_or all i (record { process = 0; sector = 0; words = [] }) in
    puts_passed_on g.K.Sink.held g.K.Sink.faults g.K.Sink.sure _ _ (flat_map line all) _ c.from_residual.result
    c.from_residual.ensures.0
    (rw (lines-split line all i one c.loop-written-test.true
    (got all i (record { process = 0; sector = 0; words = [] }) c.loop-written-test.true))
    (puts_part g.K.Sink.held g.K.Sink.faults g.K.Sink.sure _ _ (flat_map line (take i all) ++ line one)
    (flat_map line (drop (i + 1) all)) _
    (puts_both g.K.Sink.held g.K.Sink.faults g.K.Sink.sure _ _ _ (flat_map line (take i all)) (line one) _
    c.loop-written.invariant c.in_err-write_sector.ensures)))

pub loop-written-preserved : goal.loop-written-preserved
loop-written-preserved g c =
    let line = sector_line c.args.site.now in
    let all = c.args.sectors.now in
    let i = c.loop-written.written-index in
    let one = get_or all i (record { process = 0; sector = 0; words = [] }) in
    rw (lines-more line all i one c.loop-written-test.true
    (got all i (record { process = 0; sector = 0; words = [] }) c.loop-written-test.true))
    (puts_both g.K.Sink.held g.K.Sink.faults g.K.Sink.sure _ _ _ (flat_map line (take i all)) (line one) _
    c.loop-written.invariant c.in_ok-write_sector.ensures)
