-- How many events are left of a line, and that each event takes one.
use Rattle.std.proofs.Common.{◌≡◌, ◌≤◌, ◌<◌, ℕ, zero, suc, ◌+◌, ◌-◌, ◌*◌, Bool, true, false, if◌then◌else◌, nat_lt}
use Rattle.std.proofs.Common.{Option, Some, None, option_map, refl, arith, suc-mul}
use Rattle.std.proofs.lemmas.Bool.{ltb-true}
use Rattle.schedule.specs.declared.event.Counts.{Counts}
use Rattle.schedule.specs.declared.line.Line.{Line}
use Rattle.schedule.specs.declared.line.Line.TheVariants.{One, Many, Drain, Mix, Mute, Until}
use Rattle.player.specs.declared.standing.Sizes.{Sizes}
use Rattle.player.specs.declared.standing.Place.{Place}
use Rattle.player.specs.declared.standing.Place.TheVariants as place
use Rattle.player.specs.declared.standing.MixedPlace.{MixedPlace}
use Rattle.player.specs.declared.standing.MixedPlace.TheVariants as mixed
use Rattle.player.specs.declared.standing.LinePlace.{LinePlace}
use Rattle.player.specs.declared.standing.LinePlace.TheVariants as standing
use Rattle.player.specs.declared.standing.Move.{Move}
use Rattle.player.specs.Rounds.{next_turn}
use Rattle.player.specs.Mixes.{next_mixed}
use Rattle.player.specs.Lines.{begun, moved, moved_mixed, proposed, is_over, decided_move, next_event}
use Rattle.line_lengths.specs.Lengths.{KeepsTo, Room, most_in_line, most_in_round}
use Rattle.line_lengths.proofs.Turns.{left_at, left_at_mixed, first-turn, later-turn, first-mixed, later-mixed}

-- what is left of a line that stands here
abbrev pub left_in : Sizes → Room → LinePlace → ℕ
left_in sizes room standing.Ended = 0
left_in sizes room (standing.Event event left) = left
left_in sizes room (standing.Rounds rule left at) = left * most_in_round sizes room + left_at sizes room at
left_in sizes room (standing.Mixed left at draws) = left * most_in_round sizes room + left_at_mixed sizes room at

-- the next event takes one of so many
abbrev pub MoveTakes : Sizes → Room → ℕ → Option Move → Type 0
MoveTakes sizes room before None = Unit {0}
MoveTakes sizes room before (Some move) = left_in sizes room move.standing + 1 ≤ before

one-round : (left round : ℕ) → 0 < left → (left - 1) * round + round ≡ left * round
one-round zero round some = absurd (omega (arith, some))
one-round (suc left) round some = by (suc left - 1) (omega arith)
  where
    by : (less : ℕ) → less ≡ left → less * round + round ≡ suc left * round
    by less same = rw same (let one = suc-mul left round in omega (arith, one))

-- a round more is begun
begins : (rounds less round turn : ℕ) → less + round ≡ rounds → turn + 1 ≤ round → less + turn + 1 ≤ rounds + 0
begins rounds less round turn sum takes = omega (arith, sum, takes)

goes-on : (rounds turn before : ℕ) → turn + 1 ≤ before → rounds + turn + 1 ≤ rounds + before
goes-on rounds turn before takes = omega (arith, takes)

some-left : (sizes : Sizes) (room : Room) (left before : ℕ) (move : Move)
    → (0 < left → left_in sizes room move.standing + 1 ≤ before)
    → MoveTakes sizes room before (if nat_lt 0 left then Some move else None)
some-left sizes room left before move takes = by (nat_lt 0 left) refl
  where
    by : (test : Bool) → nat_lt 0 left ≡ test → MoveTakes sizes room before (if test then Some move else None)
    by true is = takes (ltb-true 0 left is)
    by false is = tt

module _ (sizes : Sizes) (room : Room) (x y : ℕ) (few_x : x ≤ room.x) (few_y : y ≤ room.y) where
  proposed-takes : (standing : LinePlace)
      → MoveTakes sizes room (left_in sizes room standing) (proposed sizes x y standing)
  proposed-takes standing.Ended = tt
  proposed-takes (standing.Event event left) =
      some-left sizes room left left (record { event = event; standing = standing.Event event (left - 1) })
      (λ some. omega (arith, some))
  proposed-takes (standing.Rounds rule left at) = by at
    where
      later : (at : Place) → (at ≡ place.Before → ⊥)
          → left_in sizes room (moved rule left (next_turn sizes x y at)).standing + 1
          ≤ left * most_in_round sizes room + left_at sizes room at
      later at isnt =
          goes-on (left * most_in_round sizes room) _ _ (later-turn sizes room y few_y x few_x at isnt)

      by : (at : Place) → MoveTakes sizes room (left * most_in_round sizes room + left_at sizes room at)
          (proposed sizes x y (standing.Rounds rule left at))
      by place.Before =
          some-left sizes room left (left * most_in_round sizes room + 0)
          (moved rule (left - 1) (next_turn sizes x y place.Before))
          (λ some. begins (left * most_in_round sizes room) ((left - 1) * most_in_round sizes room)
          (most_in_round sizes room) _
          (one-round left (most_in_round sizes room) some) (first-turn sizes room y few_y x few_x))
      by (place.Enters terminal) = later (place.Enters terminal) (λ is. absurd (cc))
      by (place.Runs process) = later (place.Runs process) (λ is. absurd (cc))
      by (place.Delivers bus packets) = later (place.Delivers bus packets) (λ is. absurd (cc))
      by (place.Ticks node) = later (place.Ticks node) (λ is. absurd (cc))
  proposed-takes (standing.Mixed left at draws) = by at
    where
      later : (at : MixedPlace) → (at ≡ mixed.Before → ⊥)
          → left_in sizes room (moved_mixed left (next_mixed sizes x y at draws)).standing + 1
          ≤ left * most_in_round sizes room + left_at_mixed sizes room at
      later at isnt =
          goes-on (left * most_in_round sizes room) _ _ (later-mixed sizes room y few_y x few_x at draws isnt)

      by : (at : MixedPlace) → MoveTakes sizes room (left * most_in_round sizes room + left_at_mixed sizes room at)
          (proposed sizes x y (standing.Mixed left at draws))
      by mixed.Before =
          some-left sizes room left (left * most_in_round sizes room + 0)
          (moved_mixed (left - 1) (next_mixed sizes x y mixed.Before draws))
          (λ some. begins (left * most_in_round sizes room) ((left - 1) * most_in_round sizes room)
          (most_in_round sizes room) _
          (one-round left (most_in_round sizes room) some) (first-mixed sizes room y few_y x few_x draws))
      by (mixed.Enters terminal) = later (mixed.Enters terminal) (λ is. absurd (cc))
      by (mixed.Runs next more) = later (mixed.Runs next more) (λ is. absurd (cc))
      by (mixed.Delivers bus packets) = later (mixed.Delivers bus packets) (λ is. absurd (cc))
      by (mixed.Repeated bus k packets) = later (mixed.Repeated bus k packets) (λ is. absurd (cc))
      by (mixed.Ticks node) = later (mixed.Ticks node) (λ is. absurd (cc))

-- the next event of a line takes one of those that are left of it
pub next-takes : (sizes : Sizes) (room : Room) (standing : LinePlace) (counts : Counts) → KeepsTo room counts
    → MoveTakes sizes room (left_in sizes room standing) (next_event sizes standing counts)
next-takes sizes room standing counts few = by (is_over standing counts) (proposed sizes counts.x counts.y standing)
    (proposed-takes sizes room counts.x counts.y few.0 few.1 standing)
  where
    by : (over : Bool) (move : Option Move) → MoveTakes sizes room (left_in sizes room standing) move
        → MoveTakes sizes room (left_in sizes room standing)
        (if over then None else option_map (decided_move standing counts) move)
    by true move takes = tt
    by false None takes = tt
    by false (Some move) takes = takes

nothing : (n : ℕ) → n + 0 ≤ n
nothing n = omega arith

-- of a line that is begun all is left
pub begun-left : (sizes : Sizes) (room : Room) (line : Line)
    → left_in sizes room (begun line) ≤ most_in_line (most_in_round sizes room) line
begun-left sizes room (One event) = omega arith
begun-left sizes room (Many event times) = omega arith
begun-left sizes room (Drain rounds) = nothing (rounds * most_in_round sizes room)
begun-left sizes room (Mix start rounds) = nothing (rounds * most_in_round sizes room)
begun-left sizes room (Mute node rounds) = nothing (rounds * most_in_round sizes room)
begun-left sizes room (Until writes count rounds) = nothing (rounds * most_in_round sizes room)
