use Rattle.std.specs.Prelude.{◌++◌}
use Rattle.gd_io.specs.Joining.{puts_both, puts_part, puts_passed_on}
use Rattle.trace_print.specs.EndLine.{closing_line}
use Rattle.trace_print.specs.LoadLines.{load_lines}
use Rattle.trace_print.specs.SectorLine.{sector_lines}
use Rattle.trace_print.specs.StopLine.{stop_lines}
use Rattle.trace_print.proofs.report.write_load_report.Goals as goal

pub returns-in_err-write_load_states : goal.returns-in_err-write_load_states
returns-in_err-write_load_states g c =
    puts_passed_on g.K.Sink.held g.K.Sink.faults g.K.Sink.sure _ _ _ _ c.from_residual.result c.from_residual.ensures.0
    (puts_part g.K.Sink.held g.K.Sink.faults g.K.Sink.sure _ _
    (load_lines c.args.counts ++ sector_lines c.args.site.now c.args.sectors.now ++ stop_lines c.args.stopped.now)
    (closing_line c.args.site.now c.args.closing) _
    c.in_err-write_load_states.ensures)

pub returns : goal.returns
returns g c =
    puts_both g.K.Sink.held g.K.Sink.faults g.K.Sink.sure _ _ _
    (load_lines c.args.counts ++ sector_lines c.args.site.now c.args.sectors.now ++ stop_lines c.args.stopped.now)
    (closing_line c.args.site.now c.args.closing) _
    c.in_ok-write_load_states.ensures c.write_closing.ensures
