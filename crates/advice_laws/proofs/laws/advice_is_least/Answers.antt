use Rattle.advice.specs.Answer.{choice_of}
use Rattle.advice_laws.proofs.Accepting.{advice-accepted, advice-contained}
use Rattle.advice_laws.proofs.Answered.{answer-advice, answer-choice}
use Rattle.advice_laws.proofs.laws.advice_is_least.Goals as goal

pub returns : goal.returns
returns c = record {
  choice = λ program advice regular answer. answer-choice program advice answer regular;
  accepted = λ program advice regular answer.
      advice-accepted (choice_of advice) program answer.bounds answer.input
      (answer-advice program advice answer regular);
  least = λ program advice other regular answer chosen accepted.
      advice-contained program (choice_of advice) other (answer-advice program advice answer regular) chosen.lowest
      accepted;
}
