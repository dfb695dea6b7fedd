use Rattle.advice_laws.proofs.Accepting.{advice-contained}
use Rattle.advice_laws.proofs.laws.accepted_choices_contain_advice.Goals as goal

pub returns : goal.returns
returns c = λ program advice other is chosen accepted. advice-contained program advice other is chosen.lowest accepted
