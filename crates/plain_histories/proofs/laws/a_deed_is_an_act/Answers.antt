use Rattle.plain_histories.proofs.Doing.{deed-made}
use Rattle.plain_histories.proofs.laws.a_deed_is_an_act.Goals as goal

pub returns : goal.returns
returns c = λ site plain ledger number spec deed before after regular agrees there done advances allowed.
    let is = deed-made site plain ledger number spec deed before after regular agrees there done advances allowed in
    (is.next, is.makes, is.agrees)
