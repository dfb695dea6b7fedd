-- Lists of numbers of which none stands twice.
use Rattle.std.proofs.Common.{◌≡◌, inl, inr, ℕ, zero, suc, ◌<◌, ◌≤◌, arith, Bool, true, false, ◌||◌, List, [], ◌∷◌}
use Rattle.std.proofs.Common.{◌++◌, length, Option, Some, None, slice_get, flat_map, refl, subst}
use Rattle.std.specs.List.{AllByRecursion, IsDistinct, list_any}
use Rattle.std.proofs.Math.Dec.{eqb}
use Rattle.std.proofs.lemmas.Bool.{eqb-true, ne_eqb}
use Rattle.std.proofs.lemmas.Map.Steps.{length-le_from_distinct_below}
use Rattle.gd_words.specs.Members.{AreDistinct, IsAmong}
use Rattle.gd_words.proofs.Among.{among-left, among-right, among-either, among-given, among-giver}

pub distinct-left : (xs ys : List ℕ) → AreDistinct (xs ++ ys) → AreDistinct xs
distinct-left [] ys distinct = tt
distinct-left (x ∷ xs) ys distinct = ((λ among. distinct.0 (among-left x xs ys among)), distinct-left xs ys distinct.1)

pub distinct-right : (xs ys : List ℕ) → AreDistinct (xs ++ ys) → AreDistinct ys
distinct-right [] ys distinct = distinct
distinct-right (x ∷ xs) ys distinct = distinct-right xs ys distinct.1

pub distinct-apart : (xs ys : List ℕ) → AreDistinct (xs ++ ys) → (n : ℕ) → IsAmong n xs → IsAmong n ys → ⊥
distinct-apart [] ys distinct n first second = first
distinct-apart (x ∷ xs) ys distinct n (inl same) second =
    distinct.0 (among-right x xs ys (subst (λ (m : ℕ). IsAmong m ys) same second))
distinct-apart (x ∷ xs) ys distinct n (inr first) second = distinct-apart xs ys distinct.1 n first second

pub distinct-both : (xs ys : List ℕ) → AreDistinct xs → AreDistinct ys → ((n : ℕ) → IsAmong n xs → IsAmong n ys → ⊥)
    → AreDistinct (xs ++ ys)
distinct-both [] ys first second apart = second
distinct-both (x ∷ xs) ys first second apart = (
  (λ among. elim (among-either x xs ys among) [ inl here' ↦ first.0 here' | inr there' ↦ apart x (inl refl) there' ]),
  distinct-both xs ys first.1 second (λ n here' there'. apart n (inr here') there'),
)

-- what some of these give is given by all of them
pub given-part : {A : Type 0} (f : A → List ℕ) (xs ys : List A) → ((x : A) → IsAmong x xs → IsAmong x ys) → (n : ℕ)
    → IsAmong n (flat_map f xs) → IsAmong n (flat_map f ys)
given-part f xs ys part n among =
    let found = among-giver f n xs among in among-given f found.0 n ys (part found.0 found.1) found.2

-- what the item at a place gives
abbrev pub given_at : {A : Type 0} → (A → List ℕ) → Option A → List ℕ
given_at f None = []
given_at f (Some x) = f x

pub given-all : {A : Type 0} (f : A → List ℕ) (xs : List A) (k n : ℕ) → IsAmong n (given_at f (slice_get xs k))
    → IsAmong n (flat_map f xs)
given-all f [] k n among = among
given-all f (x ∷ xs) zero n among = among-left n (f x) (flat_map f xs) among
given-all f (x ∷ xs) (suc k) n among = among-right n (f x) (flat_map f xs) (given-all f xs k n among)

-- a number that one item gives isn't given by a later one
pub given-apart : {A : Type 0} (f : A → List ℕ) (xs : List A) (k j n : ℕ) → AreDistinct (flat_map f xs) → k < j
    → IsAmong n (given_at f (slice_get xs k)) → IsAmong n (given_at f (slice_get xs j)) → ⊥
given-apart f [] k j n distinct before first second = first
given-apart f (x ∷ xs) k zero n distinct before first second = absurd (omega arith)
given-apart f (x ∷ xs) zero (suc j) n distinct before first second =
    distinct-apart (f x) (flat_map f xs) distinct n first (given-all f xs j n second)
given-apart f (x ∷ xs) (suc k) (suc j) n distinct before first second =
    given-apart f xs k j n (distinct-right (f x) (flat_map f xs) distinct) (omega arith) first second

pub given-distinct : {A : Type 0} (f : A → List ℕ) (xs : List A) (k : ℕ) → AreDistinct (flat_map f xs)
    → AreDistinct (given_at f (slice_get xs k))
given-distinct f [] k distinct = tt
given-distinct f (x ∷ xs) zero distinct = distinct-left (f x) (flat_map f xs) distinct
given-distinct f (x ∷ xs) (suc k) distinct = given-distinct f xs k (distinct-right (f x) (flat_map f xs) distinct)

all-apart : (n : ℕ) (ns : List ℕ) → (IsAmong n ns → ⊥) → AllByRecursion (λ m. eqb n m ≡ false) ns
all-apart n [] apart = tt
all-apart n (m ∷ ns) apart = (ne_eqb n m (λ same. apart (inl same)), all-apart n ns (λ among. apart (inr among)))

distinct-by : (ns : List ℕ) → AreDistinct ns → IsDistinct eqb ns
unfolding IsDistinct
distinct-by [] distinct = tt
distinct-by (n ∷ ns) distinct = (all-apart n ns distinct.0, distinct-by ns distinct.1)

among-by : (n : ℕ) (ns : List ℕ) → list_any (eqb n) ns ≡ true → IsAmong n ns
among-by n [] is = absurd (cc)
among-by n (m ∷ ns) is = which (eqb n m) refl is (among-by n ns)
  where
    which : (b : Bool) → eqb n m ≡ b → (b || list_any (eqb n) ns) ≡ true → (list_any (eqb n) ns ≡ true → IsAmong n ns)
        → IsAmong n (m ∷ ns)
    which true same is later = inl (eqb-true n m same)
    which false differs is later = inr (later is)

-- distinct numbers below one are no more than it
pub distinct-few : (ns : List ℕ) (n : ℕ) → AreDistinct ns → ((k : ℕ) → IsAmong k ns → k < n) → length ns ≤ n
distinct-few ns n distinct below =
    length-le_from_distinct_below ns n (distinct-by ns distinct) (λ k there. below k (among-by k ns there))
