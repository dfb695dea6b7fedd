use Rattle.checkpoint_chains.proofs.Whole.{comes-whole}
use Rattle.checkpoint_chains.proofs.laws.a_change_does_what_its_checkpoint_does.Goals as goal

pub returns : goal.returns
returns c = λ site events post before message node fit few played was sent next.
    comes-whole site fit events post few played before message node was sent next
