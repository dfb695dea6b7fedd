use Rattle.plain_histories.proofs.Acting.{step-deed, take-deed}
use Rattle.plain_histories.proofs.laws.an_act_is_a_deed.Goals as goal

pub returns : goal.returns
returns c = record {
  step = λ site plain ledger number spec m regular agrees there bounded makes.
      let is = step-deed site plain ledger number spec m regular agrees there bounded makes in
      (is.deed, is.step, is.can);
  take = λ site plain ledger number place spec one m agrees there is makes.
      take-deed site plain ledger number spec m agrees there one place is makes;
}
