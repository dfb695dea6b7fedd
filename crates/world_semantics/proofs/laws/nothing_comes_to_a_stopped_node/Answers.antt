use Rattle.world_semantics.proofs.Coming.{comes-running}
use Rattle.world_semantics.proofs.laws.nothing_comes_to_a_stopped_node.Goals as goal

pub returns : goal.returns
returns c = λ site events w next node message sendings run few change s.
    comes-running w next node message sendings run few change s
