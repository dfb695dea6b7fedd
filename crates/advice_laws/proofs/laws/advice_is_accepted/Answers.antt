use Rattle.advice_laws.proofs.Accepting.{advice-accepted}
use Rattle.advice_laws.proofs.laws.advice_is_accepted.Goals as goal

pub returns : goal.returns
returns c = λ program choice bounds input advice. advice-accepted choice program bounds input advice
