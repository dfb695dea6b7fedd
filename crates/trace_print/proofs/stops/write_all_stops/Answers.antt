use Rattle.std.proofs.Common.{◌+◌, ◌++◌, flat_map, take, drop, get_or}
use Rattle.gd_io.specs.Joining.{puts_both, puts_part, puts_passed_on}
use Rattle.trace_print.specs.StopLine.{stop_line}
use Rattle.trace_print.proofs.Lines.{lines-more, lines-split, got}
use Rattle.trace_print.proofs.stops.write_all_stops.Goals as goal

pub returns-in_err-write_stop : goal.returns-in_err-write_stop
returns-in_err-write_stop g c =
    let all = c.args.stopped.now in
    let i = c.loop-processor.processor-index in
    let one = get_or all i 0 in
    puts_passed_on g.K.Sink.held g.K.Sink.faults g.K.Sink.sure _ _ (flat_map stop_line all) _ c.from_residual.result
    c.from_residual.ensures.0
    (rw (lines-split stop_line all i one c.loop-processor-test.true (got all i 0 c.loop-processor-test.true))
    (puts_part g.K.Sink.held g.K.Sink.faults g.K.Sink.sure _ _ (flat_map stop_line (take i all) ++ stop_line one)
    (flat_map stop_line (drop (i + 1) all)) _
    (puts_both g.K.Sink.held g.K.Sink.faults g.K.Sink.sure _ _ _ (flat_map stop_line (take i all)) (stop_line one) _
    c.loop-processor.invariant c.in_err-write_stop.ensures)))

pub loop-processor-preserved : goal.loop-processor-preserved
loop-processor-preserved g c =
    let all = c.args.stopped.now in
    let i = c.loop-processor.processor-index in
    let one = get_or all i 0 in
    rw (lines-more stop_line all i one c.loop-processor-test.true (got all i 0 c.loop-processor-test.true))
    (puts_both g.K.Sink.held g.K.Sink.faults g.K.Sink.sure _ _ _ (flat_map stop_line (take i all)) (stop_line one) _
    c.loop-processor.invariant c.in_ok-write_stop.ensures)
