use Rattle.checkpoint_chains.proofs.Chains.{run-chained}
use Rattle.checkpoint_chains.proofs.laws.checkpoints_are_a_chain.Goals as goal

pub returns : goal.returns
returns c = λ site events w number pair placed run there. (run-chained site placed events w run number pair there).0
