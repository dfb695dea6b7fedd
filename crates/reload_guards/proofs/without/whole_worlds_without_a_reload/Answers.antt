use Rattle.world_semantics.proofs.Steady.{whole-runs}
use Rattle.reload_guards.proofs.Plain.{whole-where}
use Rattle.reload_guards.proofs.without.whole_worlds_without_a_reload.Goals as goal

pub returns : goal.returns
returns c = λ site events w run none. (whole-runs w, whole-where run none)
