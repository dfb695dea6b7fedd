use Rattle.std.proofs.Common.{◌+◌, ◌++◌, flat_map, take, drop, get_or}
use Rattle.run_table.specs.declared.table.ProcessorRow.{ProcessorRow}
use Rattle.gd_io.specs.Joining.{puts_both, puts_part, puts_passed_on}
use Rattle.trace_print.specs.RowLine.{row_line}
use Rattle.trace_print.proofs.Lines.{lines-more, lines-split, got}
use Rattle.trace_print.proofs.rows.write_all_rows.Goals as goal

abbrev none : ProcessorRow
none = record { processor = 0; row = record { runs = 0; idle = 0; cut = 0; second = 0 } }

pub returns-in_err-write_row : goal.returns-in_err-write_row
returns-in_err-write_row g c =
    let all = c.args.rows.now in
    let i = c.loop-one.one-index in
    let one = get_or all i none in
    puts_passed_on g.K.Sink.held g.K.Sink.faults g.K.Sink.sure _ _ (flat_map row_line all) _ c.from_residual.result
    c.from_residual.ensures.0
    (rw (lines-split row_line all i one c.loop-one-test.true (got all i none c.loop-one-test.true))
    (puts_part g.K.Sink.held g.K.Sink.faults g.K.Sink.sure _ _ (flat_map row_line (take i all) ++ row_line one)
    (flat_map row_line (drop (i + 1) all)) _
    (puts_both g.K.Sink.held g.K.Sink.faults g.K.Sink.sure _ _ _ (flat_map row_line (take i all)) (row_line one) _
    c.loop-one.invariant c.in_err-write_row.ensures)))

pub loop-one-preserved : goal.loop-one-preserved
loop-one-preserved g c =
    let all = c.args.rows.now in
    let i = c.loop-one.one-index in
    let one = get_or all i none in
    rw (lines-more row_line all i one c.loop-one-test.true (got all i none c.loop-one-test.true))
    (puts_both g.K.Sink.held g.K.Sink.faults g.K.Sink.sure _ _ _ (flat_map row_line (take i all)) (row_line one) _
    c.loop-one.invariant c.in_ok-write_row.ensures)
