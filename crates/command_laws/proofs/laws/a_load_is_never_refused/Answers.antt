use Rattle.command_laws.proofs.Commands.{load-ends}
use Rattle.command_laws.proofs.laws.a_load_is_never_refused.Goals as goal

pub returns : goal.returns
returns g c = λ words source source_now sink sink_now outcome count ends asked.
    load-ends words (g.S.Source.left source) (g.S.Source.faults source) (g.S.Source.faults source_now) count
    ends.decided ends.is_written.result outcome asked
    ends.is_due ends.is_written.is
