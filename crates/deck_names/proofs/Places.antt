-- What stands at places of lists, and lists in which a key stands at one place.
use Rattle.std.proofs.Common.{◌≡◌, ℕ, zero, suc, ◌+◌, List, [], ◌∷◌, ◌++◌, length, slice_get, Some, ◌⊎◌, inl, inr}
use Rattle.std.proofs.Common.{refl, sym, ap, ◌∙◌, subst, arith}
use Rattle.tal_faultless.proofs.Common.Entries.{get_either}
use Rattle.deck_reader.specs.Decks.{EachWith}

-- what stands at two places under one key stands at one place
abbrev pub AreOnce : {X W : Type 0} → (X → W) → List X → Type 0
AreOnce {X = X} key all = (m n : ℕ) (one other : X) → slice_get all m ≡ Some one → slice_get all n ≡ Some other
    → key one ≡ key other → m ≡ n

pub once-none : {X W : Type 0} (key : X → W) → AreOnce key []
once-none key m n one other a b same = absurd (cc a)

-- with one more, whose key is new
pub once-more : {X W : Type 0} (key : X → W) (all : List X) (x : X)
    → ((k : ℕ) (y : X) → slice_get all k ≡ Some y → key y ≡ key x → ⊥) → AreOnce key all
    → AreOnce key (all ++ x ∷ [])
once-more key all x new once m n one other a b same =
    by (get_either all x one m a) (get_either all x other n b)
  where
    by : (slice_get all m ≡ Some one) ⊎ ((m ≡ length all) × (x ≡ one))
        → (slice_get all n ≡ Some other) ⊎ ((n ≡ length all) × (x ≡ other)) → m ≡ n
    by (inl p) (inl q) = once m n one other p q same
    by (inl p) (inr q) = absurd (new m one p (same ∙ ap key (sym q.1)))
    by (inr p) (inl q) = absurd (new n other q (sym same ∙ ap key (sym p.1)))
    by (inr p) (inr q) = p.0 ∙ sym q.0

-- where an entry of two lists together stands
pub record IsBehind {X : Type 0} (xs ys : List X) (n : ℕ) (x : X) : Type 0 where
  pub place : ℕ
  pub is : n ≡ length xs + place
  pub there : slice_get ys place ≡ Some x

pub get-both : {X : Type 0} (xs ys : List X) (n : ℕ) (x : X) → slice_get (xs ++ ys) n ≡ Some x
    → (slice_get xs n ≡ Some x) ⊎ IsBehind xs ys n x
get-both [] ys n x there = inr (record { place = n; is = omega arith; there = there })
get-both (y ∷ xs) ys zero x there = inl there
get-both (y ∷ xs) ys (suc n) x there = by (get-both xs ys n x there)
  where
    by : (slice_get xs n ≡ Some x) ⊎ IsBehind xs ys n x
        → (slice_get (y ∷ xs) (suc n) ≡ Some x) ⊎ IsBehind (y ∷ xs) ys (suc n) x
    by (inl e) = inl e
    by (inr e) = inr (record { place = e.place; is = omega (arith, e.is); there = e.there })

-- two lists whose keys differ
pub once-both : {X W : Type 0} (key : X → W) (xs ys : List X) → AreOnce key xs → AreOnce key ys
    → ((m n : ℕ) (x y : X) → slice_get xs m ≡ Some x → slice_get ys n ≡ Some y → key x ≡ key y → ⊥)
    → AreOnce key (xs ++ ys)
once-both key xs ys first second differ m n one other a b same =
    by (get-both xs ys m one a) (get-both xs ys n other b)
  where
    by : (slice_get xs m ≡ Some one) ⊎ IsBehind xs ys m one → (slice_get xs n ≡ Some other) ⊎ IsBehind xs ys n other
        → m ≡ n
    by (inl p) (inl q) = first m n one other p q same
    by (inl p) (inr q) = absurd (differ m q.place one other p q.there same)
    by (inr p) (inl q) = absurd (differ n p.place other one q p.there (sym same))
    by (inr p) (inr q) =
        let e = second p.place q.place one other p.there q.there same in omega (arith, e, p.is, q.is)

-- what belongs to an entry
pub record HasMate {X Y : Type 0} (R : X → Y → Type 0) (xs : List X) (k : ℕ) (y : Y) : Type 0 where
  pub mate : X
  pub there : slice_get xs k ≡ Some mate
  pub with_it : R mate y

pub mate-at : {X Y : Type 0} (R : X → Y → Type 0) (xs : List X) (ys : List Y) (k : ℕ) (y : Y) → EachWith R xs ys
    → slice_get ys k ≡ Some y → HasMate R xs k y
mate-at R [] [] k y each there = absurd (cc there)
mate-at R [] (z ∷ ys) k y each there = absurd each
mate-at R (x ∷ xs) [] k y each there = absurd each
mate-at R (x ∷ xs) (z ∷ ys) zero y each there =
    let same : z ≡ y = cc there in record { mate = x; there = refl; with_it = subst (R x) same each.0 }
mate-at R (x ∷ xs) (z ∷ ys) (suc k) y each there =
    let later = mate-at R xs ys k y each.1 there in
    record { mate = later.mate; there = later.there; with_it = later.with_it }
