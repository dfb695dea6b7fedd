use Rattle.discipline.proofs.Verdicts.{verdicts-agree}
use Rattle.discipline.proofs.laws.one_verdict.Goals as goal

pub returns : goal.returns
returns c = verdicts-agree
