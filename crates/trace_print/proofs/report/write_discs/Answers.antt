use Rattle.std.specs.Prelude.{◌++◌}
use Rattle.gd_io.specs.Joining.{puts_both, puts_part, puts_passed_on}
use Rattle.trace_print.specs.MirrorLine.{mirror_lines}
use Rattle.trace_print.specs.SectorLine.{sector_lines}
use Rattle.trace_print.specs.ShownLine.{shown_lines}
use Rattle.trace_print.proofs.report.write_discs.Goals as goal

pub returns-in_err-write_outside : goal.returns-in_err-write_outside
returns-in_err-write_outside g c =
    puts_passed_on g.K.Sink.held g.K.Sink.faults g.K.Sink.sure _ _ _ _ c.from_residual.result c.from_residual.ensures.0
    (puts_part g.K.Sink.held g.K.Sink.faults g.K.Sink.sure _ _
    (shown_lines c.args.site.now c.args.shown.now ++ sector_lines c.args.site.now c.args.sectors.now)
    (mirror_lines c.args.site.now c.args.mirrors.now) _
    c.in_err-write_outside.ensures)

pub returns : goal.returns
returns g c =
    puts_both g.K.Sink.held g.K.Sink.faults g.K.Sink.sure _ _ _
    (shown_lines c.args.site.now c.args.shown.now ++ sector_lines c.args.site.now c.args.sectors.now)
    (mirror_lines c.args.site.now c.args.mirrors.now) _
    c.in_ok-write_outside.ensures c.write_all_mirrors.ensures
