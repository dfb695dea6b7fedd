-- The test of membership and the relation.
use Rattle.std.proofs.Common.{◌≡◌, ◌⊎◌, ℕ, Bool, true, false, List, [], ◌∷◌, inl, inr, refl, ap, sym}
use Rattle.std.specs.Prelude.{◌||◌, ◌==◌}
use Rattle.std.proofs.lemmas.Bool.{eq-eqb, eqb-true}
use Rattle.gd_words.specs.Members.{IsAmong, is_among}

step_there : (n m : ℕ) (ms : List ℕ) (b : Bool) → (m == n) ≡ b → (b || is_among n ms) ≡ true
    → (is_among n ms ≡ true → IsAmong n ms) → (n ≡ m) ⊎ IsAmong n ms
step_there n m ms true e h there = inl (sym (eqb-true m n e))
step_there n m ms false e h there = inr (there h)

pub among_there : (n : ℕ) (ns : List ℕ) → is_among n ns ≡ true → IsAmong n ns
among_there n [] h = absurd (cc)
among_there n (m ∷ ms) h = step_there n m ms (m == n) refl h (among_there n ms)

or_right : (b c : Bool) → c ≡ true → (b || c) ≡ true
or_right true c h = refl
or_right false c h = h

pub among_back : (n : ℕ) (ns : List ℕ) → IsAmong n ns → is_among n ns ≡ true
among_back n [] h = elim h [ ]
among_back n (m ∷ ms) (inl h) = ap (λ b. b || is_among n ms) (eq-eqb m n (sym h))
among_back n (m ∷ ms) (inr h) = or_right (m == n) (is_among n ms) (among_back n ms h)

pub not_among : (n : ℕ) (ns : List ℕ) → (IsAmong n ns → ⊥) → is_among n ns ≡ false
not_among n ns apart = which (is_among n ns) refl
  where
    which : (b : Bool) → is_among n ns ≡ b → is_among n ns ≡ false
    which true there = absurd (apart (among_there n ns there))
    which false there = there
