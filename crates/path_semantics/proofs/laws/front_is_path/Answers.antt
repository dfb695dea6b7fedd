use Rattle.path_semantics.proofs.Walks.{front-is-path}
use Rattle.path_semantics.proofs.laws.front_is_path.Goals as goal

pub returns : goal.returns
returns c = front-is-path
