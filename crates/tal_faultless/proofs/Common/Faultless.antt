-- What holds where no fault stands.
use Rattle.std.proofs.Common.{◌≡◌, Bool, true, false, List, [], ◌∷◌, ◌++◌, refl, sym, ap, ◌∙◌}
use Rattle.tal_tokens.specs.declared.token.At.{At}
use Rattle.tal_names.specs.declared.fault.Rule.{Rule}
use Rattle.tal_names.specs.declared.fault.RuleFault.{RuleFault}
use Rattle.tal_names.specs.Faults.{fault_at, if_so}

pub no_fault : {A : Type 0} {f : RuleFault} {fs : List RuleFault} → f ∷ fs ≡ [] → A
no_fault e = absurd (cc)

-- two parts together have no fault just where neither has one
pub nils : {xs ys : List RuleFault} → xs ≡ [] → ys ≡ [] → xs ++ ys ≡ []
nils e d = λ i. e i ++ d i

pub first_nil : (xs ys : List RuleFault) → xs ++ ys ≡ [] → xs ≡ []
first_nil [] ys e = refl
first_nil (x ∷ xs) ys e = no_fault e

pub second_nil : (xs ys : List RuleFault) → xs ++ ys ≡ [] → ys ≡ []
second_nil xs ys e = sym (ap (λ front. front ++ ys) (first_nil xs ys e)) ∙ e

pub split : {xs ys : List RuleFault} → xs ++ ys ≡ [] → (xs ≡ []) × (ys ≡ [])
split {xs} {ys} e = (first_nil xs ys e, second_nil xs ys e)

pub three : (xs ys zs : List RuleFault) → xs ++ ys ++ zs ≡ [] → (xs ≡ []) × (ys ≡ []) × (zs ≡ [])
three xs ys zs e =
    let front = first_nil (xs ++ ys) zs e in
    (first_nil xs ys front, second_nil xs ys front, second_nil (xs ++ ys) zs e)

-- the condition of a fault doesn't hold just where there is no fault
pub refuted : (b : Bool) (at : At) (rule : Rule) → if_so b (fault_at at rule) ≡ [] → b ≡ false
refuted true at rule e = no_fault e
refuted false at rule e = refl

pub silent : (b : Bool) (at : At) (rule : Rule) → b ≡ false → if_so b (fault_at at rule) ≡ []
silent b at rule e = ap (λ x. if_so x (fault_at at rule)) e
