use Rattle.advice_laws.proofs.Accepting.{more-accepted}
use Rattle.advice_laws.proofs.laws.longer_lists_are_accepted.Goals as goal

pub returns : goal.returns
returns c = more-accepted
