-- The processes of the worked sites are each in two of their processors.
use Rattle.std.proofs.Common.{◌≢◌, ◌<◌, ℕ, zero, suc, ℤ, List, subst, arith}
use Rattle.tal_tree.specs.declared.site.ProcessSpec.{ProcessSpec}
use Rattle.world_semantics.specs.Examples.{adder_for, bank_site, disc_site, echo_site}
use Rattle.world_semantics.specs.Laws.{IsPlaced}
use Rattle.world_semantics.proofs.Lists.{some-same}

abbrev IsIn : ℕ → ProcessSpec → Type 0
IsIn processors spec = (spec.primary < processors) × (spec.backup < processors) × (spec.primary ≢ spec.backup)

pub disc-placed : IsPlaced disc_site
disc-placed zero spec there =
    subst (IsIn 2) (some-same there) (omega arith, omega arith, λ e. absurd (omega (arith, e)))
disc-placed (suc number) spec there = absurd (cc)

pub adders-placed : (words : List ℤ) → IsPlaced (adder_for words)
adders-placed words zero spec there =
    subst (IsIn 2) (some-same there) (omega arith, omega arith, λ e. absurd (omega (arith, e)))
adders-placed words (suc number) spec there = absurd (cc)

pub echo-placed : IsPlaced echo_site
echo-placed zero spec there =
    subst (IsIn 2) (some-same there) (omega arith, omega arith, λ e. absurd (omega (arith, e)))
echo-placed (suc number) spec there = absurd (cc)

pub bank-placed : IsPlaced bank_site
bank-placed zero spec there =
    subst (IsIn 4) (some-same there) (omega arith, omega arith, λ e. absurd (omega (arith, e)))
bank-placed (suc zero) spec there =
    subst (IsIn 4) (some-same there) (omega arith, omega arith, λ e. absurd (omega (arith, e)))
bank-placed (suc (suc number)) spec there = absurd (cc)
