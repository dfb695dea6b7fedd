-- What holds of each item of a list.
use Rattle.std.proofs.Common.{◌≡◌, ℕ, zero, suc, Bool, true, false, cond, List, [], ◌∷◌, ◌++◌, map, take, drop, Some}
use Rattle.std.proofs.Common.{replicate, slice_get, slice_set, subst}
use Rattle.std.specs.List.{All, filter, remove}
use Rattle.std.proofs.lemmas.List.Elements.{All-cons, All-nil}
use Rattle.world_semantics.proofs.Lists.{some-same}

abbrev pub Each : {A : Type 0} → (A → Type 0) → List A → Type 0
Each P [] = Unit {0}
Each P (x ∷ xs) = P x × Each P xs

pub each-all : {A : Type 0} (P : A → Type 0) (xs : List A) → Each P xs → All P xs
each-all P [] each = All-nil P
each-all P (x ∷ xs) each = All-cons P x xs each.0 (each-all P xs each.1)

pub each-more : {A : Type 0} (P Q : A → Type 0) → ((x : A) → P x → Q x) → (xs : List A) → Each P xs → Each Q xs
each-more P Q gives [] each = tt
each-more P Q gives (x ∷ xs) each = (gives x each.0, each-more P Q gives xs each.1)

pub each-get : {A : Type 0} (P : A → Type 0) (xs : List A) (k : ℕ) (x : A) → Each P xs → slice_get xs k ≡ Some x → P x
each-get P [] k x each there = absurd (cc)
each-get P (y ∷ xs) zero x each there = subst P (some-same there) each.0
each-get P (y ∷ xs) (suc k) x each there = each-get P xs k x each.1 there

pub each-set : {A : Type 0} (P : A → Type 0) (xs : List A) (k : ℕ) (y : A) → Each P xs → P y → Each P (slice_set xs k y)
each-set P [] k y each is = tt
each-set P (x ∷ xs) zero y each is = (is, each.1)
each-set P (x ∷ xs) (suc k) y each is = (each.0, each-set P xs k y each.1 is)

pub each-append : {A : Type 0} (P : A → Type 0) (xs ys : List A) → Each P xs → Each P ys → Each P (xs ++ ys)
each-append P [] ys one other = other
each-append P (x ∷ xs) ys one other = (one.0, each-append P xs ys one.1 other)

pub each-map : {A B : Type 0} (P : B → Type 0) (f : A → B) (xs : List A) → Each (λ x. P (f x)) xs → Each P (map f xs)
each-map P f [] each = tt
each-map P f (x ∷ xs) each = (each.0, each-map P f xs each.1)

pub each-always : {A : Type 0} (P : A → Type 0) → ((x : A) → P x) → (xs : List A) → Each P xs
each-always P all [] = tt
each-always P all (x ∷ xs) = (all x, each-always P all xs)

pub each-replicate : {A : Type 0} (P : A → Type 0) (n : ℕ) (x : A) → P x → Each P (replicate n x)
each-replicate P zero x is = tt
each-replicate P (suc n) x is = (is, each-replicate P n x is)

pub each-filter : {A : Type 0} (P : A → Type 0) (test : A → Bool) (xs : List A) → Each P xs → Each P (filter test xs)
each-filter P test [] each = tt
each-filter P test (x ∷ xs) each = by (test x) (each-filter P test xs each.1)
  where
    by : (passes : Bool) → Each P (filter test xs) → Each P (cond passes (x ∷ filter test xs) (filter test xs))
    by true rest = (each.0, rest)
    by false rest = rest

pub each-take : {A : Type 0} (P : A → Type 0) (k : ℕ) (xs : List A) → Each P xs → Each P (take k xs)
each-take P zero xs each = tt
each-take P (suc k) [] each = tt
each-take P (suc k) (x ∷ xs) each = (each.0, each-take P k xs each.1)

pub each-drop : {A : Type 0} (P : A → Type 0) (k : ℕ) (xs : List A) → Each P xs → Each P (drop k xs)
each-drop P zero xs each = each
each-drop P (suc k) [] each = tt
each-drop P (suc k) (x ∷ xs) each = each-drop P k xs each.1

pub each-remove : {A : Type 0} (P : A → Type 0) (xs : List A) (k : ℕ) → Each P xs → Each P (remove xs k)
each-remove P xs k each =
    each-append P (take k xs) (drop (suc k) xs) (each-take P k xs each) (each-drop P (suc k) xs each)
