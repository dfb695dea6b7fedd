use Rattle.plain_semantics.proofs.Runs.{front-possible}
use Rattle.plain_semantics.proofs.laws.front_is_possible.Goals as goal

pub returns : goal.returns
returns c = front-possible
