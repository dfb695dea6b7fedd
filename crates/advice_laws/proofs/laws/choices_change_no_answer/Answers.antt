use Rattle.advice_laws.proofs.SameAnswer.{answer-chosen, answer-own}
use Rattle.advice_laws.proofs.laws.choices_change_no_answer.Goals as goal

pub returns : goal.returns
returns c = λ program choice advice. (answer-chosen choice program advice, answer-own choice program advice)
