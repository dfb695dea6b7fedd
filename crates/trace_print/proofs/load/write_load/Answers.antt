use Rattle.std.specs.Prelude.{◌++◌, codes}
use Rattle.gd_io.specs.Joining.{puts_both, puts_part, puts_passed_on}
use Rattle.trace_print.specs.LoadLines.{count_line}
use Rattle.trace_print.proofs.load.write_load.Goals as goal

pub returns-in_err-write_requests_and_writes : goal.returns-in_err-write_requests_and_writes
returns-in_err-write_requests_and_writes g c =
    puts_passed_on g.K.Sink.held g.K.Sink.faults g.K.Sink.sure _ _ _ _ c.from_residual.result c.from_residual.ensures.0
    (puts_part g.K.Sink.held g.K.Sink.faults g.K.Sink.sure _ _
    (count_line (codes "LOAD ") c.args.counts.requests ++ count_line (codes "W ") c.args.counts.writes)
    (count_line (codes "R ") c.args.counts.replies) _
    c.in_err-write_requests_and_writes.ensures)

pub returns : goal.returns
returns g c =
    puts_both g.K.Sink.held g.K.Sink.faults g.K.Sink.sure _ _ _
    (count_line (codes "LOAD ") c.args.counts.requests ++ count_line (codes "W ") c.args.counts.writes)
    (count_line (codes "R ") c.args.counts.replies) _
    c.in_ok-write_requests_and_writes.ensures c.write_count.ensures
