use Rattle.path_semantics.proofs.Walks.{break-is-path}
use Rattle.path_semantics.proofs.laws.break_is_path.Goals as goal

pub returns : goal.returns
returns c = break-is-path
