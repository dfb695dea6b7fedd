-- The last ones of lists, and lists of which one item changes.
use Rattle.std.proofs.Common.{◌≡◌, ℕ, zero, suc, ◌+◌, ◌-◌, ◌<◌, ◌≤◌, Bool, true, false, List, [], ◌∷◌, ◌++◌, length}
use Rattle.std.proofs.Common.{drop}
use Rattle.std.proofs.Common.{Some, refl, ap, sym, ◌∙◌, arith, slice_get, slice_set, length-append, length-drop}
use Rattle.std.specs.Prelude.{nat_le}
use Rattle.std.proofs.lemmas.Bool.{leb-true, leb-false}
use Rattle.std.proofs.lemmas.List.{drop-append-le, drop-drop}
use Rattle.std.proofs.Math.Seq.{drop-append_seam, drop-append-add}
use Rattle.checkpoint_image.specs.Receive.{last_ones}

pub get-set_same : {A : Type 0} (xs : List A) (k : ℕ) (old new : A) → slice_get xs k ≡ Some old
    → slice_get (slice_set xs k new) k ≡ Some new
get-set_same [] k old new at = cc
get-set_same (x ∷ xs) zero old new at = refl
get-set_same (x ∷ xs) (suc k) old new at = get-set_same xs k old new at

pub get-set_other : {A : Type 0} (xs : List A) (k i : ℕ) (new : A) → (k ≡ i → ⊥)
    → slice_get (slice_set xs k new) i ≡ slice_get xs i
get-set_other [] k i new apart = refl
get-set_other (x ∷ xs) zero zero new apart = absurd (apart refl)
get-set_other (x ∷ xs) zero (suc i) new apart = refl
get-set_other (x ∷ xs) (suc k) zero new apart = refl
get-set_other (x ∷ xs) (suc k) (suc i) new apart = get-set_other xs k i new (λ same. apart (ap suc same))

seam-at : {A : Type 0} (xs : List A) (y : A) (ys : List A) → slice_get (xs ++ y ∷ ys) (length xs) ≡ Some y
seam-at [] y ys = refl
seam-at (x ∷ xs) y ys = seam-at xs y ys

pub get-seam : {A : Type 0} (xs : List A) (y : A) (ys : List A) (k : ℕ) → length xs ≡ k
    → slice_get (xs ++ y ∷ ys) k ≡ Some y
get-seam xs y ys k same = ap (slice_get (xs ++ y ∷ ys)) (sym same) ∙ seam-at xs y ys

-- all of a list that is no longer
pub last_few : {A : Type 0} (n : ℕ) (xs : List A) → length xs ≤ n → last_ones n xs ≡ xs
last_few n xs few =
    let none : length xs - n ≡ 0 = omega arith in
    ap (λ (k : ℕ). drop k xs) none

pub last-length : {A : Type 0} (n : ℕ) (xs : List A) → length (last_ones n xs) ≤ n
last-length n xs = omega (arith, length-drop (length xs - n) xs)

pub last-shorter : {A : Type 0} (n : ℕ) (xs : List A) → length (last_ones n xs) ≤ length xs
last-shorter n xs = omega (arith, length-drop (length xs - n) xs)

-- the last ones of what is left where others than these were dropped
pub last-dropped : {A : Type 0} (n a : ℕ) (xs : List A) → a ≤ length xs - n → last_ones n (drop a xs) ≡ last_ones n xs
last-dropped n a xs few =
    let same : a + (length (drop a xs) - n) ≡ length xs - n = omega (arith, length-drop a xs) in
    drop-drop (length (drop a xs) - n) a xs ∙ ap (λ (k : ℕ). drop k xs) same

-- the last ones of those that are kept and more
pub last_again : {A : Type 0} (n : ℕ) (xs ys : List A) → last_ones n (last_ones n xs ++ ys) ≡ last_ones n (xs ++ ys)
last_again n xs ys =
    ap (last_ones n) (sym (drop-append-le (length xs - n) xs ys (omega arith)))
    ∙ last-dropped n (length xs - n) (xs ++ ys) (omega (arith, length-append xs ys))

-- the last ones of a list and the last ones of more
pub last_onto : {A : Type 0} (n : ℕ) (xs ys : List A) → last_ones n (xs ++ last_ones n ys) ≡ last_ones n (xs ++ ys)
last_onto {A} n xs ys = by (nat_le (length ys) n) refl
  where
    by : (b : Bool) → nat_le (length ys) n ≡ b → last_ones n (xs ++ last_ones n ys) ≡ last_ones n (xs ++ ys)
    by true is = ap (λ (zs : List A). last_ones n (xs ++ zs)) (last_few n ys (leb-true (length ys) n is))
    by false is =
        let more : n < length ys = leb-false (length ys) n is in
        let rest = drop (length ys - n) ys in
        let front : length (xs ++ rest) - n ≡ length xs =
        omega (arith, length-append xs rest, length-drop (length ys - n) ys) in
        let whole : length (xs ++ ys) - n ≡ length xs + (length ys - n) = omega (arith, length-append xs ys) in
        ap (λ (k : ℕ). drop k (xs ++ rest)) front ∙ drop-append_seam xs rest
        ∙ sym (ap (λ (k : ℕ). drop k (xs ++ ys)) whole ∙ drop-append-add xs ys (length ys - n))

-- as many of the last that are kept as were added: those that were added, as many as are kept
pub last-added : {A : Type 0} (n : ℕ) (xs ys : List A)
    → last_ones (length ys) (last_ones n (xs ++ ys)) ≡ last_ones n ys
last-added {A} n xs ys = by (nat_le (length ys) n) refl
  where
    all : length (xs ++ ys) ≡ length xs + length ys
    all = length-append xs ys

    by : (b : Bool) → nat_le (length ys) n ≡ b → last_ones (length ys) (last_ones n (xs ++ ys)) ≡ last_ones n ys
    by true is =
        let few : length ys ≤ n = leb-true (length ys) n is in
        let front : length (xs ++ ys) - length ys ≡ length xs = omega (arith, all) in
        last-dropped (length ys) (length (xs ++ ys) - n) (xs ++ ys) (omega (arith, few))
        ∙ ap (λ (k : ℕ). drop k (xs ++ ys)) front ∙ drop-append_seam xs ys ∙ sym (last_few n ys few)
    by false is =
        let more : n < length ys = leb-false (length ys) n is in
        let whole : length (xs ++ ys) - n ≡ length xs + (length ys - n) = omega (arith, all) in
        last_few (length ys) (last_ones n (xs ++ ys)) (omega (arith, last-length n (xs ++ ys), more))
        ∙ ap (λ (k : ℕ). drop k (xs ++ ys)) whole ∙ drop-append-add xs ys (length ys - n)
