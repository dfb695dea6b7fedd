use Rattle.std.proofs.Common.{refl}
use Rattle.awaited_requests.specs.Awaited.{by_terminal}
use Rattle.awaited_requests.proofs.guards.a_terminal_awaits_what_it_entered.Goals as goal

pub returns-clause-one : goal.returns-clause-one
returns-clause-one c = by_terminal {number = 0} (record { entered = 1; printed = 0 }) refl refl
