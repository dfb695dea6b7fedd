use Rattle.world_semantics.proofs.Sendings.{run-sends}
use Rattle.world_semantics.proofs.laws.what_is_sent_stays.Goals as goal

pub returns : goal.returns
returns c = λ site events w next cause sendings sending run change i. run-sends run next cause sendings change sending i
