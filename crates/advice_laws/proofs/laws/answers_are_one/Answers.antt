use Rattle.advice_laws.proofs.OneAnswer.{answers-same}
use Rattle.advice_laws.proofs.laws.answers_are_one.Goals as goal

pub returns : goal.returns
returns c = answers-same
