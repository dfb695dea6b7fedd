use Rattle.std.proofs.Common.{subst}
use Rattle.gd_io.specs.Puts.{Puts}
use Rattle.runner.proofs.Reported.{counts_are}
use Rattle.runner.proofs.entry.write_counts.Goals as goal

pub returns : goal.returns
returns g c =
    subst (λ text. Puts g.K.Sink.held g.K.Sink.faults g.K.Sink.sure c.args.sink.now c.write_load_report.new.sink text
    c.write_load_report.result)
    (counts_are c.args.report.now c.args.requests _ _ _ _ _ c.get-site.ensures c.counts-counts.ensures
    c.as_slice-sectors.ensures c.as_slice-stopped.ensures
    c.closing_of-closing.ensures)
    c.write_load_report.ensures
