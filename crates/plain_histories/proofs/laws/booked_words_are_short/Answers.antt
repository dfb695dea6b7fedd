use Rattle.plain_histories.proofs.Counted.{booked-short}
use Rattle.plain_histories.proofs.laws.booked_words_are_short.Goals as goal

pub returns : goal.returns
returns c = record {
  requests = λ site acts shown ledger one words requests booked among.
      (booked-short requests booked).requests one words among;
  deeds = λ site acts shown ledger number requests booked. (booked-short requests booked).deeds number;
}
