use Rattle.gd_io.specs.Joining.{puts_both, puts_part, puts_passed_on}
use Rattle.trace_print.specs.LoadLines.{load_lines}
use Rattle.trace_print.specs.SectorLine.{sector_lines}
use Rattle.trace_print.proofs.report.write_load_sectors.Goals as goal

pub returns-in_err-write_load : goal.returns-in_err-write_load
returns-in_err-write_load g c =
    puts_passed_on g.K.Sink.held g.K.Sink.faults g.K.Sink.sure _ _ _ _ c.from_residual.result c.from_residual.ensures.0
    (puts_part g.K.Sink.held g.K.Sink.faults g.K.Sink.sure _ _ (load_lines c.args.counts)
    (sector_lines c.args.site.now c.args.sectors.now) _
    c.in_err-write_load.ensures)

pub returns : goal.returns
returns g c =
    puts_both g.K.Sink.held g.K.Sink.faults g.K.Sink.sure _ _ _ (load_lines c.args.counts)
    (sector_lines c.args.site.now c.args.sectors.now) _
    c.in_ok-write_load.ensures c.write_all_sectors.ensures
