-- Lists over all copies and terminals, where what one of them has changes.
use Rattle.std.proofs.Common.{◌≡◌, ◌⊎◌, inl, inr, ℕ, zero, suc, ◌+◌, List, [], ◌∷◌, ◌++◌, Some, slice_get, slice_set}
use Rattle.std.proofs.Common.{refl, ap, subst, sym, ◌∙◌, arith, append_assoc}
use Rattle.gd_words.specs.Members.{IsAmong}
use Rattle.gd_words.proofs.Among.{among-either, among-left, among-right}
use Rattle.world_semantics.specs.declared.which.Which.{Which}
use Rattle.world_semantics.specs.declared.which.Which.TheVariants.{First, Second}
use Rattle.world_semantics.specs.World.{Copy, Pair, Terminal, copy_of, other_of, with_copy}
use Rattle.world_semantics.proofs.Lists.{some-same}
use Rattle.node_needs.specs.NodeNeeds.{of_copies, of_terminals}
use Rattle.link_laws.specs.Effects.{IsOneMore}

-- these stand in the place of those, and all others stand in their order
pub record AreInPlaceOf {A : Type 0} (new old : List A) (before after : List A) : Type 0 where
  pub front : List A
  pub rest : List A
  pub was : before ≡ front ++ (old ++ rest)
  pub is : after ≡ front ++ (new ++ rest)

module _ {A : Type 0} {new old : List A} where
  -- with others in front of all, or behind all
  pub in-front : (more : List A) {before after : List A} → AreInPlaceOf new old before after
      → AreInPlaceOf new old (more ++ before) (more ++ after)
  in-front more put = record {
    front = more ++ put.front;
    rest = put.rest;
    was = ap (λ (all : List A). more ++ all) put.was ∙ sym (append_assoc more put.front (old ++ put.rest));
    is = ap (λ (all : List A). more ++ all) put.is ∙ sym (append_assoc more put.front (new ++ put.rest));
  }

  pub behind : (more : List A) {before after : List A} → AreInPlaceOf new old before after
      → AreInPlaceOf new old (before ++ more) (after ++ more)
  behind more put = record {
    front = put.front;
    rest = put.rest ++ more;
    was = ap (λ (all : List A). all ++ more) put.was ∙ moved old;
    is = ap (λ (all : List A). all ++ more) put.is ∙ moved new;
  }
    where
      moved : (those : List A)
          → (put.front ++ (those ++ put.rest)) ++ more ≡ put.front ++ (those ++ (put.rest ++ more))
      moved those =
          append_assoc put.front (those ++ put.rest) more
          ∙ ap (λ (all : List A). put.front ++ all) (append_assoc those put.rest more)

  -- where they are the same, nothing changes
  pub same-put : {before after : List A} → AreInPlaceOf new old before after → new ≡ old → after ≡ before
  same-put put same = put.is ∙ ap (λ (those : List A). put.front ++ (those ++ put.rest)) same ∙ sym put.was

  -- one in the place of none is one more
  pub one-put : {before after : List A} (one : A) → AreInPlaceOf new old before after → new ≡ one ∷ [] → old ≡ []
      → IsOneMore one before after
  one-put one put is none = record {
    front = put.front;
    rest = put.rest;
    without = put.was ∙ ap (λ (those : List A). put.front ++ (those ++ put.rest)) none;
    within = put.is ∙ ap (λ (those : List A). put.front ++ (those ++ put.rest)) is;
  }

  -- none in the place of one is one less
  pub one-gone : {before after : List A} (one : A) → AreInPlaceOf new old before after → new ≡ [] → old ≡ one ∷ []
      → IsOneMore one after before
  one-gone one put none was = record {
    front = put.front;
    rest = put.rest;
    without = put.is ∙ ap (λ (those : List A). put.front ++ (those ++ put.rest)) none;
    within = put.was ∙ ap (λ (those : List A). put.front ++ (those ++ put.rest)) was;
  }

  -- what is among the new ones is there
  pub among-new : {before after : List A} (x : A) → AreInPlaceOf new old before after → IsAmong x new
      → IsAmong x after
  among-new x put among =
      subst (IsAmong x) (sym put.is)
      (among-right x put.front (new ++ put.rest) (among-left x new put.rest among))

  -- what was there is there still, or was among the old ones
  pub among-old : {before after : List A} (x : A) → AreInPlaceOf new old before after → IsAmong x before
      → IsAmong x old ⊎ IsAmong x after
  among-old {after = after} x put among =
      elim (among-either x put.front (old ++ put.rest) (subst (IsAmong x) put.was among)) [
        | inl first ↦ inr (there (among-left x put.front (new ++ put.rest) first))
        | inr later ↦ elim (among-either x old put.rest later) [
          | inl those ↦ inl those
          | inr last ↦ inr (there (among-right x put.front (new ++ put.rest) (among-right x new put.rest last)))
        ]
      ]
    where
      there : IsAmong x (put.front ++ (new ++ put.rest)) → IsAmong x after
      there = subst (IsAmong x) (sym put.is)

-- Copies

module _ {A : Type 0} (f : ℕ → Copy → List A) where
  -- of the first process
  first-put : (n : ℕ) (pairs : List Pair) (pair next : Pair) (k : Which)
      → copy_of (other_of k) next ≡ copy_of (other_of k) pair
      → AreInPlaceOf (f n (copy_of k next)) (f n (copy_of k pair)) (of_copies f n (pair ∷ pairs))
      (of_copies f n (next ∷ pairs))
  first-put n pairs pair next First other = record {
    front = [];
    rest = f n pair.second ++ of_copies f (n + 1) pairs;
    was = append_assoc (f n pair.first) (f n pair.second) (of_copies f (n + 1) pairs);
    is = append_assoc (f n next.first) (f n next.second) (of_copies f (n + 1) pairs)
        ∙ ap (λ (c : Copy). f n next.first ++ (f n c ++ of_copies f (n + 1) pairs)) other;
  }
  first-put n pairs pair next Second other = record {
    front = f n pair.first;
    rest = of_copies f (n + 1) pairs;
    was = append_assoc (f n pair.first) (f n pair.second) (of_copies f (n + 1) pairs);
    is = append_assoc (f n next.first) (f n next.second) (of_copies f (n + 1) pairs)
        ∙ ap (λ (c : Copy). f n c ++ (f n next.second ++ of_copies f (n + 1) pairs)) other;
  }

  copies-put : (n number m : ℕ) (pairs : List Pair) (pair next : Pair) (k : Which) → slice_get pairs number ≡ Some pair
      → m ≡ n + number → copy_of (other_of k) next ≡ copy_of (other_of k) pair
      → AreInPlaceOf (f m (copy_of k next)) (f m (copy_of k pair)) (of_copies f n pairs)
      (of_copies f n (slice_set pairs number next))
  copies-put n number m [] pair next k there is other = absurd (cc)
  copies-put n zero m (one ∷ pairs) pair next k there is other =
      let here : n ≡ m = omega (arith, is) in
      subst (λ (i : ℕ). AreInPlaceOf (f i (copy_of k next)) (f i (copy_of k pair)) (of_copies f n (one ∷ pairs))
      (of_copies f n (next ∷ pairs))) here
      (subst (λ (p : Pair). AreInPlaceOf (f n (copy_of k next)) (f n (copy_of k pair)) (of_copies f n (p ∷ pairs))
      (of_copies f n (next ∷ pairs))) (sym (some-same there)) (first-put n pairs pair next k other))
  copies-put n (suc number) m (one ∷ pairs) pair next k there is other =
      let here : m ≡ n + 1 + number = omega (arith, is) in
      in-front (f n one.first ++ f n one.second)
      (copies-put (n + 1) number m pairs pair next k there here other)

  pub copy-put : (number : ℕ) (pairs : List Pair) (pair rest : Pair) (k : Which) (copy : Copy)
      → slice_get pairs number ≡ Some pair → copy_of (other_of k) rest ≡ copy_of (other_of k) pair
      → AreInPlaceOf (f number copy) (f number (copy_of k pair)) (of_copies f 0 pairs)
      (of_copies f 0 (slice_set pairs number (with_copy k copy rest)))
  copy-put number pairs pair rest k copy there others =
      subst (λ (c : Copy). AreInPlaceOf (f number c) (f number (copy_of k pair)) (of_copies f 0 pairs)
      (of_copies f 0 (slice_set pairs number (with_copy k copy rest)))) (itself k)
      (copies-put 0 number number pairs pair (with_copy k copy rest) k there (omega arith) (other k ∙ others))
    where
      itself : (k : Which) → copy_of k (with_copy k copy rest) ≡ copy
      itself First = refl
      itself Second = refl

      other : (k : Which) → copy_of (other_of k) (with_copy k copy rest) ≡ copy_of (other_of k) rest
      other First = refl
      other Second = refl

-- Terminals

module _ {A : Type 0} (f : ℕ → Terminal → List A) where
  terminals-put : (n number m : ℕ) (terminals : List Terminal) (terminal next : Terminal)
      → slice_get terminals number ≡ Some terminal → m ≡ n + number
      → AreInPlaceOf (f m next) (f m terminal) (of_terminals f n terminals)
      (of_terminals f n (slice_set terminals number next))
  terminals-put n number m [] terminal next there is = absurd (cc)
  terminals-put n zero m (one ∷ terminals) terminal next there is =
      let here : n ≡ m = omega (arith, is) in
      subst (λ (i : ℕ). AreInPlaceOf (f i next) (f i terminal) (of_terminals f n (one ∷ terminals))
      (of_terminals f n (next ∷ terminals))) here
      (subst (λ (t : Terminal). AreInPlaceOf (f n next) (f n terminal) (of_terminals f n (t ∷ terminals))
      (of_terminals f n (next ∷ terminals))) (sym (some-same there))
      (record { front = []; rest = of_terminals f (n + 1) terminals; was = refl; is = refl }))
  terminals-put n (suc number) m (one ∷ terminals) terminal next there is =
      let here : m ≡ n + 1 + number = omega (arith, is) in
      in-front (f n one) (terminals-put (n + 1) number m terminals terminal next there here)

  pub terminal-put : (number : ℕ) (terminals : List Terminal) (terminal next : Terminal)
      → slice_get terminals number ≡ Some terminal
      → AreInPlaceOf (f number next) (f number terminal) (of_terminals f 0 terminals)
      (of_terminals f 0 (slice_set terminals number next))
  terminal-put number terminals terminal next there =
      terminals-put 0 number number terminals terminal next there (omega arith)
