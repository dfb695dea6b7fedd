use Rattle.process_histories.proofs.Kept.{kept-last}
use Rattle.process_histories.proofs.laws.the_last_replies_are_kept.Goals as goal

pub returns : goal.returns
returns c = λ site number spec deeds core place block opener done there known.
    kept-last done place block there opener known
