use Rattle.path_semantics.proofs.Walks.{accepted-unbroken}
use Rattle.path_semantics.proofs.laws.accepted_breaks_nowhere.Goals as goal

pub returns : goal.returns
returns c = accepted-unbroken
