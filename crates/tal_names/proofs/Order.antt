-- The least of faults is one of them, and none goes before it.
use Rattle.std.proofs.Common.{◌≡◌, ℕ, Bool, true, false, List, [], ◌∷◌, Some, None, refl, sym, subst, arith, zero, suc}
use Rattle.std.specs.Prelude.{Contains, nat_lt, if◌then◌else◌}
use mathlib.Core.Logic.{◌⊎◌, inl, inr}
use Rattle.std.proofs.lemmas.List.Elements.{Contains-append_right}
use Rattle.std.specs.List.{All}
use Rattle.std.proofs.lemmas.Bool.Decides.{nat_tests}
use Rattle.tal_names.specs.declared.fault.RuleFault.{RuleFault}
use Rattle.tal_names.specs.Faults.{rule_number, which_of, below, is_before, least, IsLeast}

lt-trans : (a b c : ℕ) → nat_lt c b ≡ false → nat_lt b a ≡ false → nat_lt c a ≡ false
lt-trans a b c p q = grind (arith, nat_tests)

lt-asym : (a b : ℕ) → nat_lt a b ≡ true → nat_lt b a ≡ false
lt-asym a b p = grind (arith, nat_tests)

below-trans : (a b c : ℕ) (cb ba ca : Bool) → (cb ≡ false → ba ≡ false → ca ≡ false) → below c b cb ≡ false
    → below b a ba ≡ false → below c a ca ≡ false
below-trans a b c cb ba ca rest p q = grind (arith, nat_tests, rest)

below-asym : (a b : ℕ) (ab ba : Bool) → (ab ≡ true → ba ≡ false) → below a b ab ≡ true → below b a ba ≡ false
below-asym a b ab ba rest p = grind (arith, nat_tests, rest)

before-trans : (f h k : RuleFault) → is_before k h ≡ false → is_before h f ≡ false → is_before k f ≡ false
before-trans f h k =
    below-trans f.place.line h.place.line k.place.line _ _ _
    (below-trans f.place.column h.place.column k.place.column _ _ _
    (below-trans (rule_number f.rule) (rule_number h.rule) (rule_number k.rule) _ _ _
    (lt-trans (which_of f.rule) (which_of h.rule) (which_of k.rule))))

before-asym : (f h : RuleFault) → is_before f h ≡ true → is_before h f ≡ false
before-asym f h =
    below-asym f.place.line h.place.line _ _
    (below-asym f.place.column h.place.column _ _
    (below-asym (rule_number f.rule) (rule_number h.rule) _ _
    (lt-asym (which_of f.rule) (which_of h.rule))))

before-self : (f : RuleFault) → is_before f f ≡ false
before-self f = by (is_before f f) refl
  where
    by : (b : Bool) → is_before f f ≡ b → is_before f f ≡ false
    by true p = before-asym f f p
    by false p = p

all_cons : (f g : RuleFault) (gs : List RuleFault) → is_before g f ≡ false → All (λ h. is_before h f ≡ false) gs
    → All (λ h. is_before h f ≡ false) (g ∷ gs)
all_cons f g gs p ps zero d there = p
all_cons f g gs p ps (suc k) d there = ps k d (omega (arith, there))

head_of : (g : RuleFault) (gs : List RuleFault) → Contains (g ∷ gs) g
head_of g gs = (0, omega arith, refl)

tail_of : (f g : RuleFault) (gs : List RuleFault) → Contains gs f → Contains (g ∷ gs) f
tail_of f g gs c = Contains-append_right (g ∷ []) gs f c

some_one : (f h : RuleFault) → Some h ≡ Some f → f ≡ h
some_one f h p = cc

-- f is k or one of the others, and neither k nor any other goes before it
abbrev LeastWith : RuleFault → List RuleFault → RuleFault → Type 0
LeastWith k fs f = ((f ≡ k) ⊎ Contains fs f) × (is_before k f ≡ false) × All (λ h. is_before h f ≡ false) fs

moved_true : (g h f : RuleFault) (gs : List RuleFault) → (f ≡ g) ⊎ Contains gs f → (f ≡ h) ⊎ Contains (g ∷ gs) f
moved_true g h f gs (inl e) = inr (subst (λ x. Contains (g ∷ gs) x) (sym e) (head_of g gs))
moved_true g h f gs (inr c) = inr (tail_of f g gs c)

moved_false : (g h f : RuleFault) (gs : List RuleFault) → (f ≡ h) ⊎ Contains gs f → (f ≡ h) ⊎ Contains (g ∷ gs) f
moved_false g h f gs (inl e) = inl e
moved_false g h f gs (inr c) = inr (tail_of f g gs c)

step_with : (g h f : RuleFault) (gs : List RuleFault) (b : Bool) → is_before g h ≡ b
    → ((k : RuleFault) → least (Some k) gs ≡ Some f → LeastWith k gs f)
    → least (if b then Some g else Some h) gs ≡ Some f → LeastWith h (g ∷ gs) f
step_with g h f gs true e rec p =
    let r : LeastWith g gs f = rec g p in
    (moved_true g h f gs r.0, before-trans f g h (before-asym g h e) r.1, all_cons f g gs r.1 r.2)
step_with g h f gs false e rec p =
    let r : LeastWith h gs f = rec h p in
    (moved_false g h f gs r.0, r.1, all_cons f g gs (before-trans f h g e r.1) r.2)

least_with : (fs : List RuleFault) (h f : RuleFault) → least (Some h) fs ≡ Some f → LeastWith h fs f
least_with [] h f p = (
  inl (some_one f h p),
  subst (λ k. is_before k f ≡ false) (some_one f h p) (before-self f),
  λ k d there. absurd (omega (arith, there)),
)
least_with (g ∷ gs) h f p = step_with g h f gs (is_before g h) refl (λ k q. least_with gs k f q) p

-- the least of a list of faults
pub least-is : (fs : List RuleFault) (f : RuleFault) → least None fs ≡ Some f → IsLeast f fs
least-is [] f p = absurd (cc p)
least-is (h ∷ fs) f p =
    let r : LeastWith h fs f = least_with fs h f p in
    record { one = one_of h f fs r.0; first = all_cons f h fs r.1 r.2 }
  where
    one_of : (h f : RuleFault) (fs : List RuleFault) → (f ≡ h) ⊎ Contains fs f → Contains (h ∷ fs) f
    one_of h f fs (inl e) = subst (λ x. Contains (h ∷ fs) x) (sym e) (head_of h fs)
    one_of h f fs (inr c) = tail_of f h fs c

-- a list with none that is least is empty
none_with : (fs : List RuleFault) (h : RuleFault) → least (Some h) fs ≡ None → ⊥
none_with [] h p = cc p
none_with (g ∷ gs) h p = by (is_before g h) (λ k q. none_with gs k q) p
  where
    by : (b : Bool) → ((k : RuleFault) → least (Some k) gs ≡ None → ⊥) → least (if b then Some g else Some h) gs ≡ None
        → ⊥
    by true rec p = rec g p
    by false rec p = rec h p

pub none-least : (fs : List RuleFault) → least None fs ≡ None → fs ≡ []
none-least [] p = refl
none-least (h ∷ fs) p = absurd (none_with fs h p)
