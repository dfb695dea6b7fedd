-- The rings that are told are those there are, each once, and nothing else is told of them.
use Rattle.std.proofs.Common.{◌≡◌, ◌<◌, ◌⊎◌, inl, inr, ℕ, zero, suc, arith, List, [], ◌∷◌, ◌++◌, length, slice_get}
use Rattle.std.proofs.Common.{Option, Some, None, option_to_list, refl, ap₂, subst, sym, ◌∙◌, append-nil}
use Rattle.std.proofs.lemmas.Bool.{cases_order}
use Rattle.gd_words.specs.Members.{IsAmong}
use Rattle.gd_words.proofs.Among.{among-either, among-left, among-right}
use Rattle.wait_rings.specs.Rings.{ring_of, rings_below, rings_of}
use Rattle.wait_rings.specs.Waits.{BeginsBelow, BeginsLowest, IsRing, IsTurned, RiseByFirst, TellsRings}
use Rattle.wait_rings.proofs.Turned.{from-lowest}
use Rattle.wait_rings.proofs.Walk.{ring-found, ring-is}

module _ (awaited : List (Option ℕ)) where
  -- a ring that is told, and its lowest number
  record Begun (below : ℕ) (ring : List ℕ) : Type 0 where
    first : ℕ
    low : first < below
    is : ring_of awaited first ≡ Some ring

  option-told : {A : Type 0} (found : Option A) (x : A) → IsAmong x (option_to_list found) → found ≡ Some x
  option-told None x among = absurd among
  option-told (Some y) x (inl same) = sym (let is : Some x ≡ Some y = rw (same) refl in is)
  option-told (Some y) x (inr among) = absurd among

  told-option : {A : Type 0} (found : Option A) (x : A) → found ≡ Some x → IsAmong x (option_to_list found)
  told-option None x is = absurd (cc)
  told-option (Some y) x is = inl (let same : x ≡ y = cc in same)

  below-is : (below : ℕ) (ring : List ℕ) → IsAmong ring (rings_below awaited below) → Begun below ring
  below-is zero ring among = absurd among
  below-is (suc first) ring among =
      by (among-either ring (rings_below awaited first) (option_to_list (ring_of awaited first)) among)
      (below-is first ring)
    where
      by : IsAmong ring (rings_below awaited first) ⊎ IsAmong ring (option_to_list (ring_of awaited first))
          → (IsAmong ring (rings_below awaited first) → Begun first ring)
          → Begun (suc first) ring
      by (inl early) before =
          let begun = before early in
          record { first = begun.first; low = (let low = begun.low in omega arith); is = begun.is }
      by (inr here') before =
          record { first = first; low = omega arith; is = option-told (ring_of awaited first) ring here' }

  below-has : (below first : ℕ) (ring : List ℕ) → first < below → ring_of awaited first ≡ Some ring
      → IsAmong ring (rings_below awaited below)
  below-has zero first ring low is = absurd (omega arith)
  below-has (suc last) first ring low is =
      by (cases_order first last) (λ lower. below-has last first ring lower is)
    where
      by : (first ≡ last) ⊎ ((first < last) ⊎ (last < first))
          → (first < last → IsAmong ring (rings_below awaited last))
          → IsAmong ring (rings_below awaited (suc last))
      by (inl same) early =
          among-right ring (rings_below awaited last) (option_to_list (ring_of awaited last))
          (told-option (ring_of awaited last) ring (subst (λ n. ring_of awaited n ≡ Some ring) same is))
      by (inr (inl lower)) early =
          among-left ring (rings_below awaited last) (option_to_list (ring_of awaited last)) (early lower)
      by (inr (inr higher)) early = absurd (omega arith)

  begins-below : (one other : ℕ) (ring later : List ℕ) → slice_get ring 0 ≡ Some one → slice_get later 0 ≡ Some other
      → one < other → BeginsBelow ring later
  begins-below one other [] later is_one is_other lower = absurd (cc)
  begins-below one other (x ∷ ring) [] is_one is_other lower = absurd (cc)
  begins-below one other (x ∷ ring) (y ∷ later) is_one is_other lower =
      let first : one ≡ x = cc in
      let second : other ≡ y = cc in
      subst (λ n. n < y) first (subst (λ n. one < n) second lower)

  rise-more : (rings : List (List ℕ)) (found : Option (List ℕ)) → RiseByFirst rings
      → ((ring later : List ℕ) → IsAmong ring rings → found ≡ Some later → BeginsBelow ring later)
      → RiseByFirst (rings ++ option_to_list found)
  rise-more rings None rise below = subst RiseByFirst (sym (append-nil rings)) rise
  rise-more [] (Some later) rise below = ((λ other among. absurd among), tt)
  rise-more (ring ∷ rings) (Some later) rise below = (
    (λ other among. elim (among-either other rings (later ∷ []) among) [
      | inl early ↦ rise.0 other early
      | inr last ↦ elim last [
        | inl same ↦ subst (BeginsBelow ring) (sym same) (below ring later (inl refl) refl)
        | inr none ↦ absurd none
      ]
    ]),
    rise-more rings (Some later) rise.1 (λ one other among is. below one other (inr among) is),
  )

  below-rise : (below : ℕ) → RiseByFirst (rings_below awaited below)
  below-rise zero = tt
  below-rise (suc last) = rise-more (rings_below awaited last) (ring_of awaited last) (below-rise last)
      (λ ring later among is.
      let begun = below-is last ring among in
      begins-below begun.first last ring later (ring-is awaited begun.first ring begun.is).1
      (ring-is awaited last later is).1 begun.low)

  told-all : (ring : List ℕ) → IsRing awaited ring
      → (one : List ℕ) × IsAmong one (rings_of awaited) × IsTurned ring one
  told-all ring is =
      let low = from-lowest awaited ring is in
      let found = ring-found awaited low.one low.rest low.is_ring low.lowest in
      (low.one ∷ low.rest, below-has (length awaited) low.one (low.one ∷ low.rest) found.0 found.1, low.turned)

pub rings-told : (awaited : List (Option ℕ)) → TellsRings awaited (rings_of awaited)
rings-told awaited = record {
  rings = λ ring among.
      let begun = below-is awaited (length awaited) ring among in (ring-is awaited begun.first ring begun.is).0;
  all = told-all awaited;
  rise = below-rise awaited (length awaited);
}

-- only one list tells them

not-below-itself : (ring : List ℕ) → BeginsBelow ring ring → ⊥
not-below-itself [] below = below
not-below-itself (x ∷ ring) below = absurd (omega arith)

not-both-below : (ring other : List ℕ) → BeginsBelow ring other → BeginsBelow other ring → ⊥
not-both-below [] other first second = first
not-both-below (x ∷ ring) [] first second = first
not-both-below (x ∷ ring) (y ∷ other) first second = absurd (omega arith)

-- two that begin with their lowest and are one ring are the same
turned-same : (ring other : List ℕ) → BeginsLowest ring → BeginsLowest other → IsTurned ring other → ring ≡ other
turned-same ring other first second turned = by turned.0 turned.1.0 turned.1.1 turned.1.2
  where
    by : (before after : List ℕ) → ring ≡ before ++ after → other ≡ after ++ before → ring ≡ other
    by [] after is_ring is_other = is_ring ∙ sym (is_other ∙ append-nil after)
    by (x ∷ before) [] is_ring is_other = (is_ring ∙ append-nil (x ∷ before)) ∙ sym is_other
    by (x ∷ before) (y ∷ after) is_ring is_other =
        let lower : x < y =
        subst BeginsLowest is_ring first y (among-right y before (y ∷ after) (inl refl))
        in
        let higher : y < x =
        subst BeginsLowest is_other second x (among-right x after (x ∷ before) (inl refl))
        in
        absurd (omega arith)

told-part : (awaited : List (Option ℕ)) (told others : List (List ℕ)) → TellsRings awaited told
    → TellsRings awaited others → (ring : List ℕ) → IsAmong ring told → IsAmong ring others
told-part awaited told others first second ring among =
    let is = first.rings ring among in
    let found = second.all ring is.0 in
    subst (λ (one : List ℕ). IsAmong one others)
    (sym (turned-same ring found.0 is.1 (second.rings found.0 found.1).1 found.2)) found.1

rise-same : (told others : List (List ℕ)) → RiseByFirst told → RiseByFirst others
    → ((ring : List ℕ) → IsAmong ring told → IsAmong ring others)
    → ((ring : List ℕ) → IsAmong ring others → IsAmong ring told) → told ≡ others
rise-same [] [] first second there back = refl
rise-same [] (y ∷ others) first second there back = absurd (back y (inl refl))
rise-same (x ∷ told) [] first second there back = absurd (there x (inl refl))
rise-same (x ∷ told) (y ∷ others) first second there back =
    ap₂ (λ z zs. z ∷ zs) same (rise-same told others first.1 second.1
    (λ ring among. later ring x y told others first.0 same among (there ring (inr among)))
    (λ ring among. later ring y x others told second.0 (sym same) among (back ring (inr among))))
  where
    heads : IsAmong x (y ∷ others) → IsAmong y (x ∷ told) → x ≡ y
    heads (inl is) second_there = is
    heads (inr among) (inl is) = sym is
    heads (inr among) (inr behind) = absurd (not-both-below y x (second.0 x among) (first.0 y behind))

    same : x ≡ y
    same = heads (there x (inl refl)) (back y (inl refl))

    later : (ring one other : List ℕ) (rest others : List (List ℕ))
        → ((late : List ℕ) → IsAmong late rest → BeginsBelow one late) → one ≡ other → IsAmong ring rest
        → IsAmong ring (other ∷ others) → IsAmong ring others
    later ring one other rest others below heads_same among (inl is) =
        absurd (not-below-itself one
        (subst (BeginsBelow one) (is ∙ sym heads_same) (below ring among)))
    later ring one other rest others below heads_same among (inr there) = there

pub told-once : (awaited : List (Option ℕ)) (told others : List (List ℕ)) → TellsRings awaited told
    → TellsRings awaited others → told ≡ others
told-once awaited told others first second =
    rise-same told others first.rise second.rise (told-part awaited told others first second)
    (told-part awaited others told second first)
