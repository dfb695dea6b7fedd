-- Going from one to whom it awaits finds the rings, and nothing else.
use Rattle.std.proofs.Common.{◌≡◌, ◌≤◌, ◌<◌, inl, inr, ℕ, zero, suc, arith, ◌==◌, Bool, true, false}
use Rattle.std.proofs.Common.{if◌then◌else◌, nat_lt, List, [], ◌∷◌, ◌++◌, length, slice_get, Option, Some, None}
use Rattle.std.proofs.Common.{refl, ap, subst, sym, ◌∙◌, append_assoc}
use Rattle.std.proofs.lemmas.Bool.{cases_lt, eq-eqb, eqb-false, eqb-true, le-ltb, ltb-false, ne_eqb}
use Rattle.gd_words.specs.Members.{AreDistinct, IsAmong}
use Rattle.gd_words.proofs.Distinct.{distinct-few}
use Rattle.wait_rings.specs.Rings.{closed_by, ring_of, ring_on}
use Rattle.wait_rings.specs.Waits.{AwaitOn, BeginsLowest, IsRing, awaited_next}

awaiter-there : (awaited : List (Option ℕ)) (one next : ℕ) → awaited_next awaited one ≡ Some next → one < length awaited
awaiter-there [] one next is = absurd (cc)
awaiter-there (x ∷ awaited) zero next is = omega arith
awaiter-there (x ∷ awaited) (suc one) next is = let there = awaiter-there awaited one next is in omega arith

module _ (awaited : List (Option ℕ)) where
  -- what a walk finds from one on, to the one that awaits the first
  record Path (first one : ℕ) (before ring : List ℕ) : Type 0 where
    rest : List ℕ
    is : ring ≡ before ++ one ∷ rest
    awaits : AwaitOn awaited first (one ∷ rest)
    above : (n : ℕ) → IsAmong n rest → first < n

  path-on : (first one next : ℕ) (before ring : List ℕ) → awaited_next awaited one ≡ Some next → first < next
      → Path first next (before ++ one ∷ []) ring → Path first one before ring
  path-on first one next before ring waits above path = record {
    rest = next ∷ path.rest;
    is = path.is ∙ append_assoc before (one ∷ []) (next ∷ path.rest);
    awaits = (waits, path.awaits);
    above = λ n among. elim among [
      | inl same ↦ subst (λ m. first < m) (sym same) above
      | inr later ↦ path.above n later
    ];
  }

  above : (first next : ℕ) → first ≤ next → (next ≡ first → ⊥) → first < next
  above first next least other = elim (cases_lt first next) [
    | inl lower ↦ lower
    | inr no_lower ↦ absurd (other (omega arith))
  ]

  walk-is : (fuel first one : ℕ) (before ring : List ℕ) → ring_on awaited fuel first one before ≡ Some ring
      → Path first one before ring
  walk-is zero first one before ring is = absurd (cc)
  walk-is (suc more) first one before ring is =
      by_wait (awaited_next awaited one) refl is (λ next. walk-is more first next (before ++ one ∷ []) ring)
    where
      by_lower : (next : ℕ) (b : Bool) → nat_lt next first ≡ b → (next ≡ first → ⊥)
          → awaited_next awaited one ≡ Some next
          → (if b then None else ring_on awaited more first next (before ++ one ∷ [])) ≡ Some ring
          → (ring_on awaited more first next (before ++ one ∷ []) ≡ Some ring
          → Path first next (before ++ one ∷ []) ring)
          → Path first one before ring
      by_lower next true lower other waits is on = absurd (cc)
      by_lower next false lower other waits is on =
          path-on first one next before ring waits (above first next (ltb-false next first lower) other) (on is)

      by_first : (next : ℕ) (b : Bool) → (next == first) ≡ b → awaited_next awaited one ≡ Some next
          → (if b then Some (before ++ one ∷ [])
          else if nat_lt next first then None else ring_on awaited more first next (before ++ one ∷ []))
          ≡ Some ring
          → (ring_on awaited more first next (before ++ one ∷ []) ≡ Some ring
          → Path first next (before ++ one ∷ []) ring)
          → Path first one before ring
      by_first next true same waits is on = record {
        rest = [];
        is = let ring_is : (before ++ one ∷ []) ≡ ring = cc in sym ring_is;
        awaits = waits ∙ ap Some (eqb-true next first same);
        above = λ n among. absurd among;
      }
      by_first next false other waits is on =
          by_lower next (nat_lt next first) refl (eqb-false next first other) waits is on

      by_wait : (wait : Option ℕ) → awaited_next awaited one ≡ wait
          → closed_by (λ next. ring_on awaited more first next (before ++ one ∷ [])) first (before ++ one ∷ []) wait
          ≡ Some ring
          → ((next : ℕ) → ring_on awaited more first next (before ++ one ∷ []) ≡ Some ring
          → Path first next (before ++ one ∷ []) ring)
          → Path first one before ring
      by_wait None waits is on = absurd (cc)
      by_wait (Some next) waits is on = by_first next (next == first) refl waits is (on next)

  -- who awaits the next is known, so there is one way alone to the first
  one-way : (last one : ℕ) (xs ys : List ℕ) → AwaitOn awaited last (one ∷ xs) → AwaitOn awaited last (one ∷ ys)
      → (IsAmong last xs → ⊥) → (IsAmong last ys → ⊥) → length xs ≡ length ys
  one-way last one [] [] first second no_first no_second = refl
  one-way last one [] (y ∷ ys) first second no_first no_second =
      absurd (no_second (inl (let same : last ≡ y = cc in same)))
  one-way last one (x ∷ xs) [] first second no_first no_second =
      absurd (no_first (inl (let same : last ≡ x = cc in same)))
  one-way last one (x ∷ xs) (y ∷ ys) first second no_first no_second =
      let same : x ≡ y = cc in
      ap suc (one-way last x xs ys first.1 (subst (λ (n : ℕ). AwaitOn awaited last (n ∷ ys)) (sym same) second.1)
      (λ among. no_first (inr among)) (λ among. no_second (inr among)))

  -- a way from one that stands on a way
  record Behind (last one : ℕ) (xs : List ℕ) : Type 0 where
    after : List ℕ
    shorter : length after < length xs
    awaits : AwaitOn awaited last (one ∷ after)
    part : (n : ℕ) → IsAmong n after → IsAmong n xs

  behind : (last one : ℕ) (xs : List ℕ) → AwaitOn awaited last xs → IsAmong one xs → Behind last one xs
  behind last one [] awaits among = absurd among
  behind last one (x ∷ []) awaits (inl same) = record {
    after = [];
    shorter = omega arith;
    awaits = subst (λ (n : ℕ). awaited_next awaited n ≡ Some last) (sym same) awaits;
    part = λ n there. absurd there;
  }
  behind last one (x ∷ []) awaits (inr among) = absurd among
  behind last one (x ∷ y ∷ xs) awaits (inl same) = record {
    after = y ∷ xs;
    shorter = omega arith;
    awaits = subst (λ (n : ℕ). AwaitOn awaited last (n ∷ y ∷ xs)) (sym same) awaits;
    part = λ n there. inr there;
  }
  behind last one (x ∷ y ∷ xs) awaits (inr among) =
      let found = behind last one (y ∷ xs) awaits.1 among in record {
        after = found.after;
        shorter = let few = found.shorter in omega arith;
        awaits = found.awaits;
        part = λ n there. inr (found.part n there);
      }

  -- so none stands twice on it
  way-distinct : (last one : ℕ) (xs : List ℕ) → AwaitOn awaited last (one ∷ xs) → (IsAmong last xs → ⊥)
      → AreDistinct (one ∷ xs)
  way-distinct last one [] awaits apart = ((λ among. among), tt)
  way-distinct last one (x ∷ xs) awaits apart = (
    (λ among. twice (behind last one (x ∷ xs) awaits.1 among)),
    way-distinct last x xs awaits.1 (λ among. apart (inr among)),
  )
    where
      twice : Behind last one (x ∷ xs) → ⊥
      twice found =
          let same : length (x ∷ xs) ≡ length found.after =
          one-way last one (x ∷ xs) found.after awaits found.awaits apart (λ among. apart (found.part last among))
          in
          let few = found.shorter in
          absurd (omega arith)

  path-ring : (first : ℕ) (ring : List ℕ) → Path first first [] ring
      → (IsRing awaited ring × BeginsLowest ring) × (slice_get ring 0 ≡ Some first)
  path-ring first ring path =
      let apart : IsAmong first path.rest → ⊥ = λ among. let above = path.above first among in absurd (omega arith) in
      let found : (IsRing awaited (first ∷ path.rest) × BeginsLowest (first ∷ path.rest))
      × (slice_get (first ∷ path.rest) 0 ≡ Some first) =
      (((way-distinct first first path.rest path.awaits apart, path.awaits), path.above), refl)
      in
      subst (λ (members : List ℕ). (IsRing awaited members × BeginsLowest members) × (slice_get members 0 ≡ Some first))
      (sym path.is) found

  -- a ring that begins lowest is found
  walk-finds : (fuel first one : ℕ) (before rest : List ℕ) → length rest < fuel → AwaitOn awaited first (one ∷ rest)
      → ((n : ℕ) → IsAmong n rest → first < n)
      → ring_on awaited fuel first one before ≡ Some (before ++ one ∷ rest)
  walk-finds zero first one before rest few awaits above = absurd (omega arith)
  walk-finds (suc more) first one before [] few awaits above =
      let same : (first == first) ≡ true = eq-eqb first first refl in
      rw (awaits, same) refl
  walk-finds (suc more) first one before (next ∷ rest) few awaits above =
      let later : first < next = above next (inl refl) in
      let other : (next == first) ≡ false = ne_eqb next first (λ same. absurd (omega arith)) in
      let higher : nat_lt next first ≡ false = le-ltb next first (omega arith) in
      let on : ring_on awaited more first next (before ++ one ∷ []) ≡ Some ((before ++ one ∷ []) ++ next ∷ rest) =
      walk-finds more first next (before ++ one ∷ []) rest (omega arith) awaits.1 (λ n among. above n (inr among))
      in
      rw (awaits.0, other, higher) (on ∙ ap Some (append_assoc before (one ∷ []) (next ∷ rest)))

  -- each of those that await one is there
  await-there : (last : ℕ) (xs : List ℕ) → AwaitOn awaited last xs → (n : ℕ) → IsAmong n xs → n < length awaited
  await-there last [] awaits n among = absurd among
  await-there last (x ∷ []) awaits n (inl same) =
      awaiter-there awaited n last (subst (λ (m : ℕ). awaited_next awaited m ≡ Some last) (sym same) awaits)
  await-there last (x ∷ []) awaits n (inr among) = absurd among
  await-there last (x ∷ y ∷ xs) awaits n (inl same) =
      awaiter-there awaited n y (subst (λ (m : ℕ). awaited_next awaited m ≡ Some y) (sym same) awaits.0)
  await-there last (x ∷ y ∷ xs) awaits n (inr among) = await-there last (y ∷ xs) awaits.1 n among

pub ring-is : (awaited : List (Option ℕ)) (first : ℕ) (ring : List ℕ) → ring_of awaited first ≡ Some ring
    → (IsRing awaited ring × BeginsLowest ring) × (slice_get ring 0 ≡ Some first)
ring-is awaited first ring is =
    path-ring awaited first ring (walk-is awaited (length awaited) first first [] ring is)

pub ring-found : (awaited : List (Option ℕ)) (first : ℕ) (rest : List ℕ) → IsRing awaited (first ∷ rest)
    → BeginsLowest (first ∷ rest) → (first < length awaited) × (ring_of awaited first ≡ Some (first ∷ rest))
ring-found awaited first rest ring lowest =
    let there : (n : ℕ) → IsAmong n (first ∷ rest) → n < length awaited =
    await-there awaited first (first ∷ rest) ring.1 in
    let few : length (first ∷ rest) ≤ length awaited = distinct-few (first ∷ rest) (length awaited) ring.0 there in
    (there first (inl refl), walk-finds awaited (length awaited) first first [] rest (omega arith) ring.1 lowest)
