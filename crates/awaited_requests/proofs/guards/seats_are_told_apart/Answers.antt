use Rattle.std.proofs.Common.{refl}
use Rattle.world_semantics.specs.declared.which.Which.TheVariants.{Second}
use Rattle.awaited_requests.proofs.guards.seats_are_told_apart.Goals as goal

pub returns-clause-holds : goal.returns-clause-holds
returns-clause-holds c = λ seated. let none = seated.free Second refl in cc

pub returns-clause-told : goal.returns-clause-told
returns-clause-told c = λ seated. let none = seated.unmarked Second refl in cc
