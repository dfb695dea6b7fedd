use Rattle.tal_recogniser.proofs.Once.{one_judgement}
use Rattle.tal_recogniser.proofs.recogniser.tokens_are_judged_once.Goals as goal

pub returns : goal.returns
returns c = one_judgement
