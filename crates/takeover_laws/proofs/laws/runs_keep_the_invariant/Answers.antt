use Rattle.takeover_laws.proofs.Kept.{run-keeps}
use Rattle.takeover_laws.proofs.laws.runs_keep_the_invariant.Goals as goal

pub returns : goal.returns
returns c = λ site events w fit few run. run-keeps site fit events w few run
