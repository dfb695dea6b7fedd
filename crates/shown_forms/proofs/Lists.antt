-- Lists of words, and lists of which each is so.
use Rattle.std.proofs.Common.{◌≡◌, ℕ, zero, suc, ℤ, pos, negsuc, List, [], ◌∷◌, ◌++◌, take, drop}
use Rattle.std.proofs.Common.{slice_get, slice_set, Option, Some, None, ◌⊎◌, inl, inr, refl, ap, arith}
use Rattle.std.specs.Prelude.{FitsSigned, replicate}
use Rattle.std.specs.Int.{w16}
use Rattle.std.specs.Option.{unwrap_or}
use Rattle.std.proofs.lemmas.Int.{SFits-int_wrap, ints}
use Rattle.gd_words.specs.Arithmetic.{wrap}
use Rattle.process_semantics.specs.State.{words_of}
use Rattle.told_reports.specs.InForm.{AreEach}
use Rattle.told_reports.specs.Words.{AreWords, IsWord}

pub fits-word : (z : ℤ) → FitsSigned w16 z → IsWord z
fits-word (pos n) fits = omega (arith, ints, fits)
fits-word (negsuc n) fits = omega (arith, ints, fits)

pub wrapped-word : (z : ℤ) → IsWord (wrap z)
wrapped-word z = fits-word (wrap z) (SFits-int_wrap w16 z)

abbrev pub IfWord : Option ℤ → Type 0
IfWord None = Unit {0}
IfWord (Some w) = IsWord w

pub get-word : (words : List ℤ) (k : ℕ) → AreWords words → IfWord (slice_get words k)
get-word [] k are = tt
get-word (w ∷ words) zero are = are.0
get-word (w ∷ words) (suc k) are = get-word words k are.1

pub set-words : (words : List ℤ) (k : ℕ) (w : ℤ) → AreWords words → IsWord w → AreWords (slice_set words k w)
set-words [] k w are is = tt
set-words (x ∷ words) zero w are is = (is, are.1)
set-words (x ∷ words) (suc k) w are is = (are.0, set-words words k w are.1 is)

pub append-words : (xs ys : List ℤ) → AreWords xs → AreWords ys → AreWords (xs ++ ys)
append-words [] ys first second = second
append-words (x ∷ xs) ys first second = (first.0, append-words xs ys first.1 second)

pub take-words : (n : ℕ) (words : List ℤ) → AreWords words → AreWords (take n words)
take-words zero [] are = tt
take-words zero (w ∷ words) are = tt
take-words (suc n) [] are = tt
take-words (suc n) (w ∷ words) are = (are.0, take-words n words are.1)

pub drop-words : (n : ℕ) (words : List ℤ) → AreWords words → AreWords (drop n words)
drop-words zero [] are = tt
drop-words zero (w ∷ words) are = are
drop-words (suc n) [] are = tt
drop-words (suc n) (w ∷ words) are = drop-words n words are.1

pub zero-words : (n : ℕ) → AreWords (replicate n (pos 0))
zero-words zero = tt
zero-words (suc n) = (omega arith, zero-words n)

-- each of a list
abbrev pub IfSo : {X : Type 0} → (X → Type 0) → Option X → Type 0
IfSo P None = Unit {0}
IfSo P (Some x) = P x

pub get-each : {X : Type 0} (P : X → Type 0) (xs : List X) (k : ℕ) → AreEach P xs → IfSo P (slice_get xs k)
get-each P [] k are = tt
get-each P (x ∷ xs) zero are = are.0
get-each P (x ∷ xs) (suc k) are = get-each P xs k are.1

pub set-each : {X : Type 0} (P : X → Type 0) (xs : List X) (k : ℕ) (x : X) → AreEach P xs → P x
    → AreEach P (slice_set xs k x)
set-each P [] k x are is = tt
set-each P (y ∷ xs) zero x are is = (is, are.1)
set-each P (y ∷ xs) (suc k) x are is = (are.0, set-each P xs k x are.1 is)

pub append-each : {X : Type 0} (P : X → Type 0) (xs ys : List X) → AreEach P xs → AreEach P ys → AreEach P (xs ++ ys)
append-each P [] ys first second = second
append-each P (x ∷ xs) ys first second = (first.0, append-each P xs ys first.1 second)

pub drop-first : {X : Type 0} (P : X → Type 0) (xs : List X) → AreEach P xs → AreEach P (drop 1 xs)
drop-first P [] are = tt
drop-first P (x ∷ []) are = tt
drop-first P (x ∷ y ∷ xs) are = are.1

-- the words of a global
pub item-words : (globals : List (List ℤ)) (item : ℕ) → AreEach AreWords globals → AreWords (words_of globals item)
item-words globals item are = by (slice_get globals item) (get-each AreWords globals item are)
  where
    by : (o : Option (List ℤ)) → IfSo AreWords o → AreWords (unwrap_or o [])
    by None is = tt
    by (Some words) is = is

-- what stands in a list with one changed
pub set-either : {X : Type 0} (xs : List X) (n : ℕ) (x : X) (k : ℕ) (y : X) → slice_get (slice_set xs n x) k ≡ Some y
    → ((k ≡ n) × (x ≡ y)) ⊎ (slice_get xs k ≡ Some y)
set-either [] n x k y there = inr there
set-either (z ∷ xs) zero x zero y there = inl (refl, cc there)
set-either (z ∷ xs) zero x (suc k) y there = inr there
set-either (z ∷ xs) (suc n) x zero y there = inr there
set-either (z ∷ xs) (suc n) x (suc k) y there = by (set-either xs n x k y there)
  where
    by : ((k ≡ n) × (x ≡ y)) ⊎ (slice_get xs k ≡ Some y)
        → ((suc k ≡ suc n) × (x ≡ y)) ⊎ (slice_get (z ∷ xs) (suc k) ≡ Some y)
    by (inl e) = inl (ap suc e.0, e.1)
    by (inr e) = inr e
