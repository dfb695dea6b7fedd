-- The numbers of a set, ascending.
use Rattle.std.proofs.Common.{◌≡◌, ◌<◌, ◌⊎◌, inl, inr, ◌↔◌, ℕ, zero, suc, ◌+◌, ◌++◌, Bool, true, false, IsTrue}
use Rattle.std.proofs.Common.{if◌then◌else◌, arith, List, [], ◌∷◌, add-one, refl, ap, subst, sym, ◌∙◌}
use Rattle.gd_words.specs.Members.{IsAmong, is_among}
use Rattle.gd_words.proofs.Among.{among-left, among-right, among-either}
use Rattle.gd_words.proofs.AmongTest.{among_there, among_back}
use Rattle.advice.specs.Answer.{IsAscending}
use Rattle.advice_search.specs.Lists.{numbers_below}
use Rattle.advice_search.proofs.Told.{never}

-- one number more
pub below-more : (holds : ℕ → Bool) (n : ℕ) (is : Bool) → holds n ≡ is
    → numbers_below holds (n + 1) ≡ numbers_below holds n ++ (if is then n ∷ [] else [])
below-more holds n is same =
    ap (numbers_below holds) (add-one n) ∙ ap (λ (b : Bool). numbers_below holds n ++ (if b then n ∷ [] else [])) same

pub same-below : (one other : ℕ → Bool) → ((n : ℕ) → one n ≡ other n) → (count : ℕ)
    → numbers_below one count ≡ numbers_below other count
same-below one other same zero = refl
same-below one other same (suc n) =
    ap (λ (front : List ℕ). front ++ (if one n then n ∷ [] else [])) (same-below one other same n)
    ∙ ap (λ (b : Bool). numbers_below other n ++ (if b then n ∷ [] else [])) (same n)

one-there : (m n : ℕ) (is : Bool) → IsAmong m (if is then n ∷ [] else []) → (m ≡ n) × (is ≡ true)
one-there m n true (inl same) = (same, refl)
one-there m n true (inr none) = absurd none
one-there m n false none = absurd none

there-one : (n : ℕ) (is : Bool) → is ≡ true → IsAmong n (if is then n ∷ [] else [])
there-one n true is = inl refl
there-one n false is = never is

less-or-same : (n m : ℕ) → n < suc m → (n < m) ⊎ (n ≡ m)
less-or-same n m less = grind arith

module _ (holds : ℕ → Bool) where
  below-there : (count m : ℕ) → IsAmong m (numbers_below holds count) → (m < count) × (holds m ≡ true)
  below-there zero m among = absurd among
  below-there (suc n) m among =
      by_part (below-there n m) (among-either m (numbers_below holds n) (if holds n then n ∷ [] else []) among)
    where
      by_part : (IsAmong m (numbers_below holds n) → (m < n) × (holds m ≡ true))
          → IsAmong m (numbers_below holds n) ⊎ IsAmong m (if holds n then n ∷ [] else [])
          → (m < suc n) × (holds m ≡ true)
      by_part earlier (inl before) = let rest = earlier before in let less : m < n = rest.0 in (omega arith, rest.1)
      by_part earlier (inr last) =
          let one = one-there m n (holds n) last in let same : m ≡ n = one.0 in (omega arith, ap holds one.0 ∙ one.1)

  there-below : (count m : ℕ) → m < count → holds m ≡ true → IsAmong m (numbers_below holds count)
  there-below zero m less is = absurd (omega arith)
  there-below (suc n) m less is = by_place (λ before. there-below n m before is) (less-or-same m n less)
    where
      by_place : (m < n → IsAmong m (numbers_below holds n)) → (m < n) ⊎ (m ≡ n)
          → IsAmong m (numbers_below holds n ++ (if holds n then n ∷ [] else []))
      by_place earlier (inl before) =
          among-left m (numbers_below holds n) (if holds n then n ∷ [] else []) (earlier before)
      by_place earlier (inr same) =
          among-right m (numbers_below holds n) (if holds n then n ∷ [] else [])
          (subst (λ (k : ℕ). IsAmong k (if holds n then n ∷ [] else [])) (sym same)
          (there-one n (holds n) (ap holds (sym same) ∙ is)))

  pub below-is : (count m : ℕ) → IsTrue (is_among m (numbers_below holds count)) ↔ ((m < count) × IsTrue (holds m))
  below-is count m = (
    (λ is. below-there count m (among_there m (numbers_below holds count) is)),
    (λ both. among_back m (numbers_below holds count) (there-below count m both.0 both.1)),
  )

  ascending-more : (ns : List ℕ) (n : ℕ) (is : Bool) → IsAscending ns → ((m : ℕ) → IsAmong m ns → m < n)
      → IsAscending (ns ++ (if is then n ∷ [] else []))
  ascending-more [] n true ascending less = ((λ m among. absurd among), tt)
  ascending-more [] n false ascending less = tt
  ascending-more (k ∷ ns) n is ascending less = (
    (λ m among. by_part m (among-either m ns (if is then n ∷ [] else []) among)),
    ascending-more ns n is ascending.1 (λ m among. less m (inr among)),
  )
    where
      by_part : (m : ℕ) → IsAmong m ns ⊎ IsAmong m (if is then n ∷ [] else []) → k < m
      by_part m (inl before) = ascending.0 m before
      by_part m (inr last) = let one = one-there m n is last in subst (λ (j : ℕ). k < j) (sym one.0) (less k (inl refl))

  pub below-ascending : (count : ℕ) → IsAscending (numbers_below holds count)
  below-ascending zero = tt
  below-ascending (suc n) =
      ascending-more (numbers_below holds n) n (holds n) (below-ascending n) (λ m among. (below-there n m among).0)
