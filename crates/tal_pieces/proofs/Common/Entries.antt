-- Entries of lists, and of lists with more at their ends.
use Rattle.std.proofs.Common.{◌≡◌, ℕ, zero, suc, List, [], ◌∷◌, ◌++◌, length, take, drop, slice_get, Some, refl, ap}
use Rattle.std.proofs.Common.{◌∙◌, arith}
use Rattle.std.proofs.lemmas.Option.{get_or_from_slice_get, slice_get_within}
use Rattle.std.proofs.Math.Seq.{take-suc}

pub get_added : {A : Type 0} (xs : List A) (y : A) (ys : List A) (n : ℕ) → length xs ≡ n
    → slice_get ((xs ++ y ∷ []) ++ ys) n ≡ Some y
get_added [] y ys zero e = refl
get_added [] y ys (suc n) e = absurd (omega (arith, e))
get_added (x ∷ xs) y ys zero e = absurd (omega (arith, e))
get_added (x ∷ xs) y ys (suc n) e = get_added xs y ys n (omega (arith, e))

pub take_before : {A : Type 0} (xs : List A) (y : A) (ys : List A) (n : ℕ) → length xs ≡ n
    → take n ((xs ++ y ∷ []) ++ ys) ≡ xs
take_before [] y ys zero e = refl
take_before [] y ys (suc n) e = absurd (omega (arith, e))
take_before (x ∷ xs) y ys zero e = absurd (omega (arith, e))
take_before (x ∷ xs) y ys (suc n) e = ap (λ rest. x ∷ rest) (take_before xs y ys n (omega (arith, e)))

-- one more element from the front
pub take_next : {A : Type 0} (xs : List A) (k : ℕ) (x : A) → slice_get xs k ≡ Some x
    → take (suc k) xs ≡ take k xs ++ x ∷ []
take_next xs k x h =
    take-suc xs k x (slice_get_within xs k x h) ∙ ap (λ y. take k xs ++ y ∷ []) (get_or_from_slice_get xs k x x h)

-- this holds of each of a list
abbrev pub Each : {A : Type 0} → (A → Type 0) → List A → Type 0
Each P [] = Unit {0}
Each P (x ∷ xs) = P x × Each P xs

pub each_take : {A : Type 0} (P : A → Type 0) (n : ℕ) (xs : List A) → Each P xs → Each P (take n xs)
each_take P zero [] h = tt
each_take P zero (x ∷ xs) h = tt
each_take P (suc n) [] h = tt
each_take P (suc n) (x ∷ xs) h = (h.0, each_take P n xs h.1)

pub each_drop : {A : Type 0} (P : A → Type 0) (n : ℕ) (xs : List A) → Each P xs → Each P (drop n xs)
each_drop P zero [] h = tt
each_drop P zero (x ∷ xs) h = h
each_drop P (suc n) [] h = tt
each_drop P (suc n) (x ∷ xs) h = each_drop P n xs h.1

pub each_append : {A : Type 0} (P : A → Type 0) (xs ys : List A) → Each P xs → Each P ys → Each P (xs ++ ys)
each_append P [] ys h k = k
each_append P (x ∷ xs) ys h k = (h.0, each_append P xs ys h.1 k)
