use Rattle.std.proofs.Common.{◌≡◌, [], ◌∷◌, ◌++◌, List, length, refl}
use Rattle.tal_tree.specs.declared.act.Shown.{Shown}
use Rattle.break_guards.specs.Sites.{written}
use Rattle.break_guards.proofs.judging.what_is_to_be_shown_stands_apart.Goals as goal

pub returns-clause-next : goal.returns-clause-next
returns-clause-next c =
    record { agreed = written 5 ∷ []; all = refl; before = refl; next = refl; instead_is = refl }

pub returns-clause-nothing : goal.returns-clause-nothing
returns-clause-nothing c =
    record { agreed = written 5 ∷ []; all = refl; before = refl; next = refl; instead_is = refl }

none-before : (agreed : List Shown) → (written 5 ∷ written 6 ∷ []) ≡ (agreed ++ written 6 ∷ [])
    → 0 ≡ length agreed → ⊥
none-before [] all before = cc
none-before (x ∷ agreed) all before = cc

pub returns-clause-early : goal.returns-clause-early
returns-clause-early c = λ apart. none-before apart.agreed apart.all apart.before
