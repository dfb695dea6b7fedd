use Rattle.std.proofs.Common.{refl, arith}
use Rattle.takeover_laws.specs.process_histories.specs.Served.{disc}
use Rattle.awaited_requests.proofs.guards.layouts_are_told_apart.Goals as goal

pub returns-clause-same : goal.returns-clause-same
returns-clause-same c = λ out. (out.places 0 (record disc { primary = 1; backup = 1 }) refl).2 refl

pub returns-clause-elsewhere : goal.returns-clause-elsewhere
returns-clause-elsewhere c =
    λ out. let less = (out.places 0 (record disc { primary = 0; backup = 2 }) refl).1 in absurd (omega (arith, less))
