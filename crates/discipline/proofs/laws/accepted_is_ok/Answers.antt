use Rattle.discipline.proofs.Verdicts.{accepted-ok}
use Rattle.discipline.proofs.laws.accepted_is_ok.Goals as goal

pub returns : goal.returns
returns c = accepted-ok
