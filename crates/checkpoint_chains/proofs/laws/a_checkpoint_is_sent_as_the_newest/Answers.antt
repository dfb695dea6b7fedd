use Rattle.checkpoint_chains.proofs.Newest.{change-new}
use Rattle.checkpoint_chains.proofs.laws.a_checkpoint_is_sent_as_the_newest.Goals as goal

pub returns : goal.returns
returns c = λ site w next cause sendings sending message change among is.
    change-new w next cause sendings change sending among message is
