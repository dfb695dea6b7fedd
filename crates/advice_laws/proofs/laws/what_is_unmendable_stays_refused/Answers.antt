use Rattle.advice.specs.Answer.{choice_of}
use Rattle.advice_laws.proofs.Accepting.{advice-accepted}
use Rattle.advice_laws.proofs.Answered.{answer-advice, answer-choice}
use Rattle.advice_laws.proofs.SameBounds.{bounds-own}
use Rattle.advice_laws.proofs.Unmendable.{beyond-stays}
use Rattle.advice_laws.proofs.laws.what_is_unmendable_stays_refused.Goals as goal

pub returns : goal.returns
returns c = record {
  unmendable = λ program reason path choice unmendable chosen accepted.
      beyond-stays program reason path unmendable.beyond unmendable.shortest.breaks choice chosen accepted;
  bounds = λ program choice accepted. bounds-own choice program accepted.bounds;
  answered = λ program advice reason path regular answer unmendable.
      beyond-stays program reason path unmendable.beyond unmendable.shortest.breaks (choice_of advice)
      (answer-choice program advice answer regular)
      (advice-accepted (choice_of advice) program answer.bounds answer.input
      (answer-advice program advice answer regular));
}
