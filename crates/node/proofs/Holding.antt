-- How many ends of a node hold something, and what is told by that.
use Rattle.std.proofs.Common.{◌≡◌, ◌≤◌, ◌<◌, ◌+◌, ◌∙◌, ℕ, zero, suc, Bool, true, false, not}
use Rattle.std.proofs.Common.{List, [], ◌∷◌, Some, inl, inr, slice_get, slice_set, length, take, get_or, refl, ap}
use Rattle.std.proofs.Common.{arith}
use Rattle.std.proofs.Math.Nat.{eq-or-lt_of_le}
use Rattle.std.proofs.lemmas.List.{length-set, take_all}
use Rattle.event_parts.specs.packet_wires.specs.world_semantics.proofs.Lists.{some-same}
use Rattle.link_control.specs.Ends.{End, is_empty}
use Rattle.event_parts.specs.packet_wires.specs.Idle.{holds_nothing}
use Rattle.node.specs.Held.{holding_in, one_if}

abbrev pub holds : End → Bool
holds e = not (is_empty e)

-- if none holds something, each is empty
pub none-holding : (ends : List End) → holding_in ends ≡ 0 → (y : ℕ) → holds_nothing (slice_get ends y) ≡ true
none-holding [] none y = refl
none-holding (e ∷ ends) none zero = by (is_empty e) none
  where
    by : (empty : Bool) → one_if (not empty) + holding_in ends ≡ 0 → empty ≡ true
    by true none = refl
    by false none = absurd (omega (arith, none))
none-holding (e ∷ ends) none (suc y) = none-holding ends (omega (arith, none)) y

-- one end is changed
pub set-holding : (ends : List End) (k : ℕ) (e after : End) → slice_get ends k ≡ Some e
    → holding_in (slice_set ends k after) + one_if (holds e) ≡ holding_in ends + one_if (holds after)
set-holding [] k e after there = absurd (cc)
set-holding (x ∷ ends) zero e after there =
    let same : one_if (holds x) ≡ one_if (holds e) = ap (λ (one : End). one_if (holds one)) (some-same there) in
    omega (arith, same)
set-holding (x ∷ ends) (suc k) e after there =
    let rest = set-holding ends k e after there in omega (arith, rest)

one-most : (b : Bool) → one_if b ≤ 1
one-most true = omega arith
one-most false = omega arith

-- an end that holds something is counted
pub one-counted : (ends : List End) (k : ℕ) (e : End) → slice_get ends k ≡ Some e → one_if (holds e) ≤ holding_in ends
one-counted [] k e there = absurd (cc)
one-counted (x ∷ ends) zero e there =
    let same : one_if (holds x) ≡ one_if (holds e) = ap (λ (one : End). one_if (holds one)) (some-same there) in
    omega (arith, same)
one-counted (x ∷ ends) (suc k) e there = let rest = one-counted ends k e there in omega (arith, rest)

-- no more than there are
pub most-holding : (ends : List End) → holding_in ends ≤ length ends
most-holding [] = omega arith
most-holding (e ∷ ends) =
    let rest = most-holding ends in let one = one-most (holds e) in omega (arith, rest, one)

-- the first ones, and one more
pub take-holding : (ends : List End) (k : ℕ) (e : End) → e ≡ get_or ends k e → k < length ends
    → holding_in (take (k + 1) ends) ≡ holding_in (take k ends) + one_if (holds e)
take-holding [] k e is within = absurd (omega (arith, within))
take-holding (x ∷ ends) zero e is within =
    let same : one_if (holds e) ≡ one_if (holds x) = ap (λ (one : End). one_if (holds one)) is in
    let none : holding_in (take 0 ends) ≡ 0 = refl in
    omega (arith, same, none)
take-holding (x ∷ ends) (suc k) e is within =
    let rest = take-holding ends k e is (omega (arith, within)) in
    let more : holding_in (take (suc k + 1) (x ∷ ends)) ≡ one_if (holds x) + holding_in (take (k + 1) ends) =
    let later : suc k + 1 ≡ suc (k + 1) = omega arith in
    ap (λ (n : ℕ). holding_in (take n (x ∷ ends))) later in
    omega (arith, rest, more)

pub most-taken : (ends : List End) (k : ℕ) → holding_in (take k ends) ≤ k
most-taken ends zero = omega arith
most-taken [] (suc k) = omega arith
most-taken (e ∷ ends) (suc k) =
    let rest = most-taken ends k in let one = one-most (holds e) in omega (arith, rest, one)

pub take-all : (ends : List End) (k : ℕ) → length ends ≤ k → holding_in (take k ends) ≡ holding_in ends
take-all ends k past = ap holding_in (take_all k ends past)

module _ (ends : List End) (k : ℕ) (e after : End) (empty empties : Bool) (holding : ℕ)
    (there : slice_get ends k ≡ Some e) (was : empty ≡ is_empty e) (counts : holding ≡ holding_in ends) where
  held : one_if (not empty) ≡ one_if (holds e)
  held = ap (λ (b : Bool). one_if (not b)) was

  pub held-counted : one_if (not empty) ≤ holding
  held-counted = let one = one-counted ends k e there in omega (arith, one, held, counts)

  module _ (is : empties ≡ is_empty after) where
    left : one_if (not empties) ≡ one_if (holds after)
    left = ap (λ (b : Bool). one_if (not b)) is

    pub room-counted : length ends ≤ 18446744073709551615
        → holding + one_if (not empties) ≤ 18446744073709551615 + one_if (not empty)
    room-counted few =
        let set = set-holding ends k e after there in
        let most = most-holding (slice_set ends k after) in
        let same = length-set ends k after in
        omega (arith, set, most, same, held, left, counts, few)

    pub now-counted : (result : ℕ) → result + one_if (not empty) ≡ holding + one_if (not empties)
        → result ≡ holding_in (slice_set ends k after)
    now-counted result sums =
        let set = set-holding ends k e after there in omega (arith, set, sums, held, left, counts)

-- one more that holds nothing
pub none-so-far : (ends : List End) (first other : ℕ)
    → ((y : ℕ) → first ≤ y → y < other → holds_nothing (slice_get ends y) ≡ true)
    → holds_nothing (slice_get ends other) ≡ true
    → (y : ℕ) → first ≤ y → y < other + 1 → holds_nothing (slice_get ends y) ≡ true
none-so-far ends first other below here y least most =
    let low : y ≤ other = omega (arith, most) in
    elim (eq-or-lt_of_le low) [
      | inl same ↦ ap (λ k. holds_nothing (slice_get ends k)) same ∙ here
      | inr less ↦ below y least less
    ]
