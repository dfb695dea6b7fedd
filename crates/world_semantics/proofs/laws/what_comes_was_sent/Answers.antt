use Rattle.world_semantics.proofs.Coming.{comes-sent}
use Rattle.world_semantics.proofs.laws.what_comes_was_sent.Goals as goal

pub returns : goal.returns
returns c = λ site w next node message sendings change. comes-sent w next node message sendings change
