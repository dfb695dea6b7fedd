use Rattle.world_semantics.proofs.Fair.{fair-of, run-fair}
use Rattle.world_semantics.proofs.laws.hands_agree.Goals as goal

pub returns : goal.returns
returns c = λ site events w number pair k run there.
    (fair-of number w.replies k pair (run-fair run number pair there)).core.stands.hand
