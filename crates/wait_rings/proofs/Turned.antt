-- A ring may be told from any of its members on, and so from its lowest.
use Rattle.std.proofs.Common.{◌≡◌, ◌<◌, ◌⊎◌, inl, inr, ℕ, arith, List, [], ◌∷◌, ◌++◌, Option, refl, ap, subst, sym}
use Rattle.std.proofs.Common.{append-nil}
use Rattle.std.proofs.lemmas.Bool.{cases_order}
use Rattle.gd_words.specs.Members.{AreDistinct, IsAmong}
use Rattle.gd_words.proofs.Among.{among-either, among-right}
use Rattle.gd_words.proofs.Distinct.{distinct-apart, distinct-both, distinct-left, distinct-right}
use Rattle.wait_rings.specs.Waits.{AwaitOn, BeginsLowest, IsRing, IsTurned}

module _ (awaited : List (Option ℕ)) where
  await-split : (last one : ℕ) (before after : List ℕ) → AwaitOn awaited last (before ++ one ∷ after)
      → AwaitOn awaited one before × AwaitOn awaited last (one ∷ after)
  await-split last one [] after awaits = (tt, awaits)
  await-split last one (x ∷ []) after awaits = (awaits.0, awaits.1)
  await-split last one (x ∷ y ∷ before) after awaits =
      let rest = await-split last one (y ∷ before) after awaits.1 in ((awaits.0, rest.0), rest.1)

  await-join : (last one : ℕ) (before after : List ℕ) → AwaitOn awaited one before
      → AwaitOn awaited last (one ∷ after) → AwaitOn awaited last (before ++ one ∷ after)
  await-join last one [] after first second = second
  await-join last one (x ∷ []) after first second = (first, second)
  await-join last one (x ∷ y ∷ before) after first second =
      (first.0, await-join last one (y ∷ before) after first.1 second)

  ring-turned : (one : ℕ) (before after : List ℕ) → IsRing awaited (before ++ one ∷ after)
      → IsRing awaited ((one ∷ after) ++ before)
  ring-turned one [] after ring = subst (IsRing awaited) (sym (append-nil (one ∷ after))) ring
  ring-turned one (x ∷ before) after ring =
      let parts = await-split x one (x ∷ before) after ring.1 in (
        distinct-both (one ∷ after) (x ∷ before) (distinct-right (x ∷ before) (one ∷ after) ring.0)
            (distinct-left (x ∷ before) (one ∷ after) ring.0)
            (λ n later early. distinct-apart (x ∷ before) (one ∷ after) ring.0 n early later),
        await-join one x (one ∷ after) before parts.1 parts.0,
      )

-- the lowest of some that are distinct
record Lowest (ns : List ℕ) : Type 0 where
  before : List ℕ
  one : ℕ
  after : List ℕ
  is : ns ≡ before ++ one ∷ after
  early : (n : ℕ) → IsAmong n before → one < n
  late : (n : ℕ) → IsAmong n after → one < n

lowest-among : (ns : List ℕ) (low : Lowest ns) (n : ℕ) → IsAmong n ns → (n ≡ low.one) ⊎ (low.one < n)
lowest-among ns low n among =
    elim (among-either n low.before (low.one ∷ low.after) (subst (IsAmong n) low.is among)) [
      | inl early ↦ inr (low.early n early)
      | inr rest ↦ elim rest [ inl same ↦ inl same | inr late ↦ inr (low.late n late) ]
    ]

lowest-more : (n : ℕ) (ns : List ℕ) → (IsAmong n ns → ⊥) → Lowest ns → Lowest (n ∷ ns)
lowest-more n ns apart low = by_order (cases_order n low.one)
  where
    there : IsAmong low.one ns
    there = subst (IsAmong low.one) (sym low.is) (among-right low.one low.before (low.one ∷ low.after) (inl refl))

    by_order : (n ≡ low.one) ⊎ ((n < low.one) ⊎ (low.one < n)) → Lowest (n ∷ ns)
    by_order (inl same) = absurd (apart (subst (λ m. IsAmong m ns) (sym same) there))
    by_order (inr (inl lower)) = record {
      before = [];
      one = n;
      after = ns;
      is = refl;
      early = λ m among. absurd among;
      late = λ m among. elim (lowest-among ns low m among) [
        | inl same ↦ subst (λ k. n < k) (sym same) lower
        | inr above ↦ omega arith
      ];
    }
    by_order (inr (inr higher)) = record {
      before = n ∷ low.before;
      one = low.one;
      after = low.after;
      is = ap (λ ms. n ∷ ms) low.is;
      early = λ m among. elim among [
        | inl same ↦ subst (λ k. low.one < k) (sym same) higher
        | inr early ↦ low.early m early
      ];
      late = low.late;
    }

lowest-of : (n : ℕ) (ns : List ℕ) → AreDistinct (n ∷ ns) → Lowest (n ∷ ns)
lowest-of n [] distinct = record {
  before = [];
  one = n;
  after = [];
  is = refl;
  early = λ m among. absurd among;
  late = λ m among. absurd among;
}
lowest-of n (m ∷ ns) distinct = lowest-more n (m ∷ ns) distinct.0 (lowest-of m ns distinct.1)

-- a ring from its lowest on
pub record FromLowest (awaited : List (Option ℕ)) (ring : List ℕ) : Type 0 where
  pub one : ℕ
  pub rest : List ℕ
  pub turned : IsTurned ring (one ∷ rest)
  pub is_ring : IsRing awaited (one ∷ rest)
  pub lowest : BeginsLowest (one ∷ rest)

pub from-lowest : (awaited : List (Option ℕ)) (ring : List ℕ) → IsRing awaited ring → FromLowest awaited ring
from-lowest awaited [] ring = absurd ring
from-lowest awaited (first ∷ rest) ring = by (lowest-of first rest ring.0)
  where
    by : Lowest (first ∷ rest) → FromLowest awaited (first ∷ rest)
    by low = record {
      one = low.one;
      rest = low.after ++ low.before;
      turned = (low.before, (low.one ∷ low.after, low.is, refl));
      is_ring = ring-turned awaited low.one low.before low.after (subst (IsRing awaited) low.is ring);
      lowest = λ n among. elim (among-either n low.after low.before among) [
        | inl late ↦ low.late n late
        | inr early ↦ low.early n early
      ];
    }
