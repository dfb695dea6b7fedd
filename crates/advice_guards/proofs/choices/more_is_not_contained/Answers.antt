use Rattle.std.proofs.Common.{◌≡◌, ◌≤◌, ◌<◌, false, true, arith, refl}
use Rattle.advice_guards.proofs.choices.more_is_not_contained.Goals as goal

pub returns-clause-items : goal.returns-clause-items
returns-clause-items c = λ is. let wrong : false ≡ true = is.items 0 0 refl in absurd (cc)

pub returns-clause-files : goal.returns-clause-files
returns-clause-files c = λ is. let wrong : false ≡ true = is.files 0 1 refl in absurd (cc)

pub returns-clause-depths : goal.returns-clause-depths
returns-clause-depths c =
    λ is. let wrong : 2 ≤ 1 = is.depths 0 (let inside : 0 < 2 = omega arith in inside) in absurd (omega arith)
