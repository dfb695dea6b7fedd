-- Whether a test is true of something in a list.
use Rattle.std.proofs.Common.{◌≡◌, ◌≤◌, ℕ, zero, suc, ◌+◌, ◌==◌, ◌||◌, Bool, true, false, arith, List, [], ◌∷◌, Some}
use Rattle.std.proofs.Common.{length, get_or, ◌<◌, slice_get, count_by, if◌then◌else◌, refl, ap, sym, subst, ◌∙◌}
use Rattle.std.specs.List.{list_any}
use Rattle.std.proofs.lemmas.List.Sums.{sum_by-cons}
use Rattle.gd_words.specs.Members.{is_among}

or-true : (b : Bool) → (b || true) ≡ true
or-true true = refl
or-true false = refl

pub record IsThere {A : Type 0} (p : A → Bool) (xs : List A) : Type 0 where
  pub place : ℕ
  pub one : A
  pub got : slice_get xs place ≡ Some one
  pub holds : p one ≡ true

pub any-there : {A : Type 0} (p : A → Bool) (xs : List A) → list_any p xs ≡ true → IsThere p xs
any-there p [] is = absurd (cc)
any-there p (x ∷ xs) is = by_test (p x) refl is (any-there p xs)
  where
    by_test : (b : Bool) → p x ≡ b → (b || list_any p xs) ≡ true → (list_any p xs ≡ true → IsThere p xs)
        → IsThere p (x ∷ xs)
    by_test true here all later = record { place = zero; one = x; got = refl; holds = here }
    by_test false here all later = let found = later all in
        record { place = suc found.place; one = found.one; got = found.got; holds = found.holds }

pub any-at : {A : Type 0} (p : A → Bool) (xs : List A) (k : ℕ) (x : A) → slice_get xs k ≡ Some x → p x ≡ true
    → list_any p xs ≡ true
any-at p [] k x got is = absurd (cc)
any-at p (y ∷ xs) zero x got is = ap (λ (b : Bool). b || list_any p xs) (ap p (let same : y ≡ x = cc in same) ∙ is)
any-at p (y ∷ xs) (suc k) x got is = ap (λ (b : Bool). p y || b) (any-at p xs k x got is) ∙ or-true (p y)

-- what is counted is there, and what is there is counted
pub counted-among : (n : ℕ) (xs : List ℕ) → 1 ≤ count_by (λ x. x == n) xs → is_among n xs ≡ true
counted-among n [] some = absurd (omega arith)
counted-among n (x ∷ xs) some = by_test (x == n)
    (subst (λ (k : ℕ). 1 ≤ k) (sum_by-cons (λ (y : ℕ). if y == n then 1 else 0) x xs) some) (counted-among n xs)
  where
    by_test : (b : Bool) → 1 ≤ (if b then 1 else 0) + count_by (λ y. y == n) xs
        → (1 ≤ count_by (λ y. y == n) xs → is_among n xs ≡ true) → (b || is_among n xs) ≡ true
    by_test true all later = refl
    by_test false all later =
        later (let some : 1 ≤ 0 + count_by (λ (y : ℕ). y == n) xs = all in omega arith)

pub among-counted : (n : ℕ) (xs : List ℕ) → is_among n xs ≡ true → 1 ≤ count_by (λ x. x == n) xs
among-counted n [] there = absurd (cc)
among-counted n (x ∷ xs) there =
    subst (λ (k : ℕ). 1 ≤ k) (sym (sum_by-cons (λ (y : ℕ). if y == n then 1 else 0) x xs))
    (by_test (x == n) there (among-counted n xs))
  where
    by_test : (b : Bool) → (b || is_among n xs) ≡ true → (is_among n xs ≡ true → 1 ≤ count_by (λ y. y == n) xs)
        → 1 ≤ (if b then 1 else 0) + count_by (λ y. y == n) xs
    by_test true all later = omega arith
    by_test false all later =
        let some : 1 ≤ count_by (λ (y : ℕ). y == n) xs = later all in
        let same : 1 ≤ 0 + count_by (λ (y : ℕ). y == n) xs = omega arith in same

-- an item is the same whatever stands for one past the end
pub got-same : {A : Type 0} (xs : List A) (k : ℕ) (d : A) → k < length xs → get_or xs k d ≡ get_or xs k (get_or xs k d)
got-same [] k d inside = absurd (omega arith)
got-same (x ∷ xs) zero d inside = refl
got-same (x ∷ xs) (suc k) d inside = got-same xs k d (omega arith)
