-- Members of lists that are put together.
use Rattle.std.proofs.Common.{◌≡◌, ◌⊎◌, inl, inr, ℕ, zero, suc, List, [], ◌∷◌, ◌++◌, Some, slice_get, reverse, flat_map}
use Rattle.std.proofs.Common.{refl, subst, sym}
use Rattle.std.proofs.lemmas.Grind.{reverse_onto}
use Rattle.gd_words.specs.Members.{IsAmong}

pub among-left : {A : Type 0} (x : A) (xs ys : List A) → IsAmong x xs → IsAmong x (xs ++ ys)
among-left x [] ys among = absurd among
among-left x (y ∷ xs) ys (inl same) = inl same
among-left x (y ∷ xs) ys (inr among) = inr (among-left x xs ys among)

pub among-right : {A : Type 0} (x : A) (xs ys : List A) → IsAmong x ys → IsAmong x (xs ++ ys)
among-right x [] ys among = among
among-right x (y ∷ xs) ys among = inr (among-right x xs ys among)

pub among-either : {A : Type 0} (x : A) (xs ys : List A) → IsAmong x (xs ++ ys) → IsAmong x xs ⊎ IsAmong x ys
among-either x [] ys among = inr among
among-either x (y ∷ xs) ys (inl same) = inl (inl same)
among-either x (y ∷ xs) ys (inr among) =
    elim (among-either x xs ys among) [ inl left ↦ inl (inr left) | inr right ↦ inr right ]

-- one of those that a list's items give
pub among-given : {A B : Type 0} (f : A → List B) (x : A) (y : B) (xs : List A) → IsAmong x xs → IsAmong y (f x)
    → IsAmong y (flat_map f xs)
among-given f x y [] among given = absurd among
among-given f x y (z ∷ xs) (inl same) given =
    among-left y (f z) (flat_map f xs) (subst (λ w. IsAmong y (f w)) same given)
among-given f x y (z ∷ xs) (inr among) given = among-right y (f z) (flat_map f xs) (among-given f x y xs among given)

giver-more : {A B : Type 0} (f : A → List B) (y : B) (z : A) (xs : List A) → IsAmong y (f z) ⊎ IsAmong y (flat_map f xs)
    → (IsAmong y (flat_map f xs) → (x : A) × IsAmong x xs × IsAmong y (f x))
    → (x : A) × IsAmong x (z ∷ xs) × IsAmong y (f x)
giver-more f y z xs (inl given) later = (z, inl refl, given)
giver-more f y z xs (inr among) later = let found = later among in (found.0, inr found.1, found.2)

-- which item gives it
pub among-giver : {A B : Type 0} (f : A → List B) (y : B) (xs : List A) → IsAmong y (flat_map f xs)
    → (x : A) × IsAmong x xs × IsAmong y (f x)
among-giver f y [] among = absurd among
among-giver f y (z ∷ xs) among =
    giver-more f y z xs (among-either y (f z) (flat_map f xs) among) (λ later. among-giver f y xs later)

-- what holds of one holds of each among it alone
pub among-one : {A : Type 0} (P : A → Type 0) (x y : A) → IsAmong x (y ∷ []) → P y → P x
among-one P x y (inl same) holds = subst P (sym same) holds
among-one P x y (inr among) holds = absurd among

-- what stands at a place
pub among-at : {A : Type 0} (xs : List A) (k : ℕ) (x : A) → slice_get xs k ≡ Some x → IsAmong x xs
among-at [] k x there = absurd (cc)
among-at (y ∷ xs) zero x there = inl (let same : x ≡ y = cc in same)
among-at (y ∷ xs) (suc k) x there = inr (among-at xs k x there)

pub among-reverse : {A : Type 0} (x : A) (xs : List A) → IsAmong x (reverse xs) → IsAmong x xs
among-reverse x [] among = among
among-reverse x (y ∷ xs) among =
    elim (among-either x (reverse xs) (y ∷ []) (subst (IsAmong x) (reverse_onto xs y []) among)) [
      | inl early ↦ inr (among-reverse x xs early)
      | inr last ↦ among-one (λ z. IsAmong z (y ∷ xs)) x y last (inl refl)
    ]
