use Rattle.std.specs.Prelude.{◌++◌}
use Rattle.gd_io.specs.Joining.{puts_both, puts_part, puts_passed_on}
use Rattle.trace_print.specs.ActLine.{act_lines}
use Rattle.trace_print.specs.MirrorLine.{mirror_lines}
use Rattle.trace_print.specs.SectorLine.{sector_lines}
use Rattle.trace_print.specs.ShownLine.{shown_lines}
use Rattle.trace_print.specs.StopLine.{stop_lines}
use Rattle.trace_print.proofs.report.write_run.Goals as goal

pub returns-in_err-write_end_states : goal.returns-in_err-write_end_states
returns-in_err-write_end_states g c =
    puts_passed_on g.K.Sink.held g.K.Sink.faults g.K.Sink.sure _ _ _ _ c.from_residual.result c.from_residual.ensures.0
    (puts_part g.K.Sink.held g.K.Sink.faults g.K.Sink.sure _ _
    (shown_lines c.args.site.now c.args.shown.now ++ sector_lines c.args.site.now c.args.sectors.now
    ++ mirror_lines c.args.site.now c.args.mirrors.now ++ stop_lines c.args.stopped.now) (act_lines c.args.site.now
    c.args.acts.now) _
    c.in_err-write_end_states.ensures)

pub returns : goal.returns
returns g c =
    puts_both g.K.Sink.held g.K.Sink.faults g.K.Sink.sure _ _ _
    (shown_lines c.args.site.now c.args.shown.now ++ sector_lines c.args.site.now c.args.sectors.now
    ++ mirror_lines c.args.site.now c.args.mirrors.now ++ stop_lines c.args.stopped.now) (act_lines c.args.site.now
    c.args.acts.now) _
    c.in_ok-write_end_states.ensures c.write_all_acts.ensures
