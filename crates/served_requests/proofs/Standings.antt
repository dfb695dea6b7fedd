-- How a number of an opener stands to a receive table, and what a take and an answer leave of that.
use Rattle.std.proofs.Common.{◌≡◌, ◌≢◌, ◌==◌, ◌&&◌, ◌⊎◌, inl, inr, ℕ, zero, suc, ◌+◌, ◌-◌, ◌<◌, ◌≤◌, ℤ, Bool, true}
use Rattle.std.proofs.Common.{false, if◌then◌else◌, nat_lt, nat_le, List, [], ◌∷◌, ◌++◌, length, drop, take, reverse}
use Rattle.std.proofs.Common.{Option, Some, None, slice_get, refl, ap, sym, ◌∙◌, subst, arith}
use Rattle.std.proofs.lemmas.Bool.{eq-eqb, eqb-true, eqb-false, ltb-true, ltb-false, le-leb, leb-true}
use Rattle.std.proofs.lemmas.Bool.Decides.{eqb_tells}
use Rattle.std.proofs.lemmas.List.{reverse-append, take-append-drop}
use Rattle.checkpoint_image.specs.declared.receive.OpenerBlock.{OpenerBlock}
use Rattle.checkpoint_image.specs.declared.receive.ReceiveBlock.{ReceiveBlock}
use Rattle.checkpoint_image.specs.declared.receive.RequestStanding.{RequestStanding}
use Rattle.checkpoint_image.specs.declared.receive.RequestStanding.TheVariants.{Next, InHand, Kept, Old, Ahead}
use Rattle.checkpoint_image.specs.Receive.{is_place, holds, answered, reply_kept, kept_or_old, standing_in, standing_by}
use Rattle.checkpoint_image.specs.Receive.{standing_at, after_taking, after_answering, last_ones}
use Rattle.world_semantics.proofs.Lists.{some-same, Changed, is_new, is_same, changed}
use Rattle.world_semantics.proofs.Roles.{both-true}

-- why a number stands to a block as it does
data Stands (held : Bool) (block : OpenerBlock) (n : ℕ) : RequestStanding → Type 0 where
  as_next : n ≡ block.taken + 1 → Stands held block n Next
  as_ahead : block.taken + 1 < n → Stands held block n Ahead
  as_in_hand : held ≡ true → n ≡ block.taken → Stands held block n InHand
  as_kept : {words : List ℤ} → n ≤ block.taken → (held ≡ true → n < block.taken)
      → reply_kept (answered held block) block.kept n ≡ Some words
      → Stands held block n (Kept words)
  as_old : reply_kept (answered held block) block.kept n ≡ None → Stands held block n Old

stands : (held : Bool) (block : OpenerBlock) (n : ℕ) → Stands held block n (standing_in held block n)
stands held block n =
    by (n == block.taken + 1) refl (nat_lt (block.taken + 1) n) refl (held && n == block.taken) refl
    (reply_kept (answered held block) block.kept n) refl
  where
    below : (n == block.taken + 1) ≡ false → nat_lt (block.taken + 1) n ≡ false → n ≤ block.taken
    below other less = let apart = eqb-false n (block.taken + 1) other in let most =
        ltb-false (block.taken + 1) n less in omega (arith, apart, most)

    apart : (held : Bool) → (held && n == block.taken) ≡ false → held ≡ true → n ≢ block.taken
    apart true hand e = eqb-false n block.taken hand
    apart false hand e = absurd (cc)

    by : (same : Bool) → (n == block.taken + 1) ≡ same → (later : Bool) → nat_lt (block.taken + 1) n ≡ later
        → (hand : Bool) → (held && n == block.taken) ≡ hand
        → (kept : Option (List ℤ)) → reply_kept (answered held block) block.kept n ≡ kept
        → Stands held block n (if same then Next else if later then Ahead else if hand then InHand else kept_or_old
        kept)
    by true same later less hand held_now kept is = as_next (eqb-true n (block.taken + 1) same)
    by false same true less hand held_now kept is = as_ahead (ltb-true (block.taken + 1) n less)
    by false same false less true held_now kept is =
        let both = both-true held (n == block.taken) held_now in as_in_hand both.0 (eqb-true n block.taken both.1)
    by false same false less false held_now (Some words) is =
        as_kept (below same less) (λ h. let most = below same less in let other = apart held held_now h in
        omega (arith, most, other)) is
    by false same false less false held_now None is = as_old is

-- Tables

-- a number of the opener at a place stands next to a table
pub record IsNext (table : ReceiveBlock) (place n : ℕ) : Type 0 where
  pub block : OpenerBlock
  pub there : slice_get table.openers place ≡ Some block
  pub next : n ≡ block.taken + 1

pub next-is : (table : ReceiveBlock) (place n : ℕ) → standing_at table place n ≡ Next → IsNext table place n
next-is table place n e = of (slice_get table.openers place) refl e
  where
    in-block : (block : OpenerBlock) → slice_get table.openers place ≡ Some block
        → Stands (holds table place) block n Next → IsNext table place n
    in-block block there (as_next next) = record { block = block; there = there; next = next }

    of : (block : Option OpenerBlock) → slice_get table.openers place ≡ block
        → standing_by (holds table place) block n ≡ Next → IsNext table place n
    of None there e = absurd (cc)
    of (Some block) there e =
        in-block block there (subst (Stands (holds table place) block n) e (stands (holds table place) block n))

next-at : (table : ReceiveBlock) (place n : ℕ) → IsNext table place n → standing_at table place n ≡ Next
next-at table place n is = rw (is.there, eq-eqb n (is.block.taken + 1) is.next) refl

-- a number that stands next, in hand or kept isn't past the next one
pub stands-low : (table : ReceiveBlock) (place n : ℕ) (block : OpenerBlock) → slice_get table.openers place ≡ Some block
    → (standing_at table place n ≡ Next) ⊎ (standing_at table place n ≡ InHand)
    ⊎ ((words : List ℤ) × (standing_at table place n ≡ Kept words))
    → n ≤ block.taken + 1
stands-low table place n block there is = of (standing_in (holds table place) block n)
    (stands (holds table place) block n) (rw there at is)
  where
    of : (standing : RequestStanding) → Stands (holds table place) block n standing
        → (standing ≡ Next) ⊎ (standing ≡ InHand) ⊎ ((words : List ℤ) × (standing ≡ Kept words)) → n ≤ block.taken + 1
    of Next (as_next next) is = omega (arith, next)
    of InHand (as_in_hand held same) is = omega (arith, same)
    of (Kept words) (as_kept most hand kept) is = omega (arith, most)
    of Ahead (as_ahead more) (inl same) = absurd (cc)
    of Ahead (as_ahead more) (inr (inl same)) = absurd (cc)
    of Ahead (as_ahead more) (inr (inr kept)) = absurd (let same = kept.1 in cc)
    of Old (as_old none) (inl same) = absurd (cc)
    of Old (as_old none) (inr (inl same)) = absurd (cc)
    of Old (as_old none) (inr (inr kept)) = absurd (let same = kept.1 in cc)

-- the reply to a number of the opener at a place is kept in a table
pub record IsKept (table : ReceiveBlock) (place n : ℕ) (words : List ℤ) : Type 0 where
  pub block : OpenerBlock
  pub there : slice_get table.openers place ≡ Some block
  pub most : n ≤ block.taken
  pub hand : holds table place ≡ true → n < block.taken
  pub kept : reply_kept (answered (holds table place) block) block.kept n ≡ Some words

pub kept-is : (table : ReceiveBlock) (place n : ℕ) (words : List ℤ) → standing_at table place n ≡ Kept words
    → IsKept table place n words
kept-is table place n words e = of (slice_get table.openers place) refl e
  where
    in-block : (block : OpenerBlock) → slice_get table.openers place ≡ Some block
        → Stands (holds table place) block n (Kept words) → IsKept table place n words
    in-block block there (as_kept most hand kept) =
        record { block = block; there = there; most = most; hand = hand; kept = kept }

    of : (block : Option OpenerBlock) → slice_get table.openers place ≡ block
        → standing_by (holds table place) block n ≡ Kept words
        → IsKept table place n words
    of None there e = absurd (cc)
    of (Some block) there e =
        in-block block there (subst (Stands (holds table place) block n) e (stands (holds table place) block n))

kept-at : (table : ReceiveBlock) (place n : ℕ) (words : List ℤ) → IsKept table place n words
    → standing_at table place n ≡ Kept words
kept-at table place n words is = rw is.there (in-block (stands (holds table place) is.block n))
  where
    in-block : {standing : RequestStanding} → Stands (holds table place) is.block n standing → standing ≡ Kept words
    in-block (as_next next) = absurd (let most = is.most in omega (arith, next, most))
    in-block (as_ahead less) = absurd (let most = is.most in omega (arith, less, most))
    in-block (as_in_hand held same) = absurd (let less = is.hand held in omega (arith, same, less))
    in-block (as_kept most hand kept) = ap Kept (some-same (sym kept ∙ is.kept))
    in-block (as_old none) = absurd (let kept = is.kept in cc)

-- Kept replies

pub kept-test : (last n : ℕ) (kept : List (List ℤ)) (words : List ℤ) → reply_kept last kept n ≡ Some words
    → (n ≤ last) × (slice_get (reverse kept) (last - n) ≡ Some words)
kept-test last n kept words e = by (nat_le n last) refl e
  where
    by : (test : Bool) → nat_le n last ≡ test
        → (if test then slice_get (reverse kept) (last - n) else None) ≡ Some words
        → (n ≤ last) × (slice_get (reverse kept) (last - n) ≡ Some words)
    by true t e = (leb-true n last t, e)
    by false t e = absurd (cc)

get-append : {A : Type 0} (xs ys : List A) (k : ℕ) (x : A) → slice_get xs k ≡ Some x → slice_get (xs ++ ys) k ≡ Some x
get-append [] ys k x e = absurd (cc)
get-append (y ∷ xs) ys zero x e = e
get-append (y ∷ xs) ys (suc k) x e = get-append xs ys k x e

-- what stands among the last ones, counted from the end, stands there in the whole list
last-get : {A : Type 0} (d : ℕ) (xs : List A) (k : ℕ) (x : A) → slice_get (reverse (last_ones d xs)) k ≡ Some x
    → slice_get (reverse xs) k ≡ Some x
last-get d xs k x e =
    let i = length xs - d in
    let split : reverse xs ≡ reverse (drop i xs) ++ reverse (take i xs) =
    ap reverse (sym (take-append-drop i xs)) ∙ reverse-append (take i xs) (drop i xs) in
    subst (λ l. slice_get l k ≡ Some x) (sym split) (get-append (reverse (drop i xs)) (reverse (take i xs)) k x e)

-- a reply that is kept after an answer is the one that was said, or was kept before
answered-reply : (depth n last : ℕ) (kept : List (List ℤ)) (said words : List ℤ)
    → reply_kept last (last_ones depth (kept ++ said ∷ [])) n ≡ Some words
    → ((n ≡ last) × (words ≡ said)) ⊎ ((n < last) × (reply_kept (last - 1) kept n ≡ Some words))
answered-reply depth n last kept said words e =
    let is = kept-test last n (last_ones depth (kept ++ said ∷ [])) words e in
    let whole = last-get depth (kept ++ said ∷ []) (last - n) words is.1 in
    of (last - n) refl is.0 (subst (λ l. slice_get l (last - n) ≡ Some words) (reverse-append kept (said ∷ [])) whole)
  where
    of : (k : ℕ) → last - n ≡ k → n ≤ last → slice_get (said ∷ reverse kept) k ≡ Some words
        → ((n ≡ last) × (words ≡ said)) ⊎ ((n < last) × (reply_kept (last - 1) kept n ≡ Some words))
    of zero k most e = inl (omega (arith, k, most), sym (some-same e))
    of (suc j) k most e =
        let less : n ≤ last - 1 = omega (arith, k) in
        let back : (last - 1) - n ≡ j = omega (arith, k) in
        let test = le-leb n (last - 1) less in
        inr (omega (arith, k), rw (test, back) e)

-- Taking and answering

other-place : (place other : ℕ) → place ≢ other → is_place (Some place) other ≡ false
other-place place other apart = elim (eqb_tells place other) [ inl same ↦ absurd (apart same.1) | inr other ↦ other.0 ]

module _ (table : ReceiveBlock) (place : ℕ) (block : OpenerBlock)
    (there : slice_get table.openers place ≡ Some block) where
  pub took-next : (other n : ℕ) → ((old : OpenerBlock) → slice_get table.openers other ≡ Some old → n ≤ old.taken + 1)
      → standing_at (after_taking place block table) other n ≡ Next
      → (place ≢ other) × (standing_at table other n ≡ Next)
  took-next other n low e = let is = next-is (after_taking place block table) other n e in
      of is (changed table.openers place (record block { taken = block.taken + 1 }) other is.block is.there)
    where
      of : (is : IsNext (after_taking place block table) other n)
          → Changed table.openers place (record block { taken = block.taken + 1 }) other is.block
          → (place ≢ other) × (standing_at table other n ≡ Next)
      of is (is_new here new) =
          let most = low block (subst (λ p. slice_get table.openers p ≡ Some block) here there) in
          let taken : is.block.taken ≡ block.taken + 1 = ap (λ (b : OpenerBlock). b.taken) new in
          let next = is.next in absurd (omega (arith, next, taken, most))
      of is (is_same apart old) =
          (apart, next-at table other n (record { block = is.block; there = old; next = is.next }))

  pub took-kept : (other n : ℕ) (words : List ℤ) → table.in_hand ≡ None
      → standing_at (after_taking place block table) other n ≡ Kept words
      → standing_at table other n ≡ Kept words
  took-kept other n words free e = let is = kept-is (after_taking place block table) other n words e in
      of is (changed table.openers place (record block { taken = block.taken + 1 }) other is.block is.there)
    where
      empty : holds table other ≡ false
      empty = rw free refl

      of : (is : IsKept (after_taking place block table) other n words)
          → Changed table.openers place (record block { taken = block.taken + 1 }) other is.block
          → standing_at table other n ≡ Kept words
      of is (is_new here new) =
          let held : is_place (Some place) other ≡ true = eq-eqb place other here in
          let taken : is.block.taken ≡ block.taken + 1 = ap (λ (b : OpenerBlock). b.taken) new in
          let less = is.hand held in
          let kept = is.kept in
          let last : block.taken + 1 - 1 ≡ block.taken = omega arith in
          kept-at table other n words (record {
            block = block;
            there = subst (λ p. slice_get table.openers p ≡ Some block) here there;
            most = omega (arith, less, taken);
            hand = λ (h : holds table other ≡ true). absurd (cc);
            kept = rw empty (rw (held, new, last) at kept);
          })
      of is (is_same apart old) =
          let held = other-place place other apart in
          let kept = is.kept in
          kept-at table other n words (record {
            block = is.block;
            there = old;
            most = is.most;
            hand = λ (h : holds table other ≡ true). absurd
                (cc);
            kept = rw empty (rw held at kept);
          })

  pub answered-next : (other n depth : ℕ) (said : List ℤ)
      → standing_at (after_answering depth place block said table) other n ≡ Next
      → standing_at table other n ≡ Next
  answered-next other n depth said e = let is = next-is (after_answering depth place block said table) other n e in
      of is (changed table.openers place (record block { kept = last_ones depth (block.kept ++ said ∷ []) }) other
      is.block is.there)
    where
      of : (is : IsNext (after_answering depth place block said table) other n)
          → Changed table.openers place (record block { kept = last_ones depth (block.kept ++ said ∷ []) }) other
          is.block → standing_at table other n ≡ Next
      of is (is_new here new) =
          next-at table other n (record {
            block = block;
            there = subst (λ p. slice_get table.openers p ≡ Some block) here there;
            next = is.next ∙ ap (λ (b : OpenerBlock). b.taken + 1) new;
          })
      of is (is_same apart old) = next-at table other n (record { block = is.block; there = old; next = is.next })

  pub answered-kept : (other n depth : ℕ) (said words : List ℤ) → table.in_hand ≡ Some place
      → standing_at (after_answering depth place block said table) other n ≡ Kept words
      → ((place ≡ other) × (n ≡ block.taken) × (words ≡ said)) ⊎ (standing_at table other n ≡ Kept words)
  answered-kept other n depth said words held e =
      let is = kept-is (after_answering depth place block said table) other n words e in
      of is (changed table.openers place (record block { kept = last_ones depth (block.kept ++ said ∷ []) }) other
      is.block is.there)
    where
      of : (is : IsKept (after_answering depth place block said table) other n words)
          → Changed table.openers place (record block { kept = last_ones depth (block.kept ++ said ∷ []) }) other
          is.block
          → ((place ≡ other) × (n ≡ block.taken) × (words ≡ said)) ⊎ (standing_at table other n ≡ Kept words)
      of is (is_new here new) =
          let kept = is.kept in
          elim (answered-reply depth n block.taken block.kept said words (rw new at kept)) [
            | inl now ↦ inl (here, now.0, now.1)
            | inr before ↦
                let hand : holds table other ≡ true = rw held (eq-eqb place other here) in
                let less = before.0 in
                inr (kept-at table other n words (record {
                  block = block;
                  there = subst (λ p. slice_get table.openers p ≡ Some block) here there;
                  most = omega (arith, less);
                  hand = λ h. less;
                  kept = rw hand before.1;
                }))
          ]
      of is (is_same apart old) =
          let empty : holds table other ≡ false = rw held (other-place place other apart) in
          inr (kept-at table other n words
          (record {
            block = is.block;
            there = old;
            most = is.most;
            hand = λ (h : holds table other ≡ true). absurd (cc);
            kept = rw empty is.kept;
          }))
