use Rattle.std.proofs.Common.{subst}
use Rattle.gd_io.specs.Puts.{Puts}
use Rattle.runner.proofs.Reported.{lines_are}
use Rattle.runner.proofs.entry.write_lines.Goals as goal

pub returns : goal.returns
returns g c =
    subst (λ text. Puts g.K.Sink.held g.K.Sink.faults g.K.Sink.sure c.args.sink.now c.write_report.new.sink text
    c.write_report.result)
    (lines_are c.args.report.now c.args.acts _ _ _ _ _ _ _ c.get-site.ensures c.shown-shown.ensures
    c.as_slice-sectors.ensures c.as_slice-mirrors.ensures c.as_slice-stopped.ensures
    c.told_acts-acts.ensures c.closing_of-closing.ensures)
    c.write_report.ensures
