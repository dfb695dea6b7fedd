use Rattle.std.proofs.Common.{arith}
use Rattle.flow_paths.proofs.Along.{followed, walked}
use Rattle.flow_paths.proofs.laws.paths_are_walks.Goals as goal

pub returns-clause-walked : goal.returns-clause-walked
returns-clause-walked c = λ program nodes path stand flow leads. followed program nodes flow path stand leads

pub returns-clause-led : goal.returns-clause-led
returns-clause-led c =
    λ program nodes path k dues flow less goes. walked program nodes flow path k dues (omega (arith, less)) less goes
