-- A turn ends its round or leaves it under way.
use Rattle.std.proofs.Common.{◌≡◌, ℕ, ◌+◌, ◌<◌, ◌≤◌, ◌==◌, Bool, true, false, nat_lt, if◌then◌else◌, refl, arith}
use Rattle.std.proofs.lemmas.Bool.{ltb-true, eqb-true}
use Rattle.schedule.specs.declared.bus_name.BusName.TheVariants as bus
use Rattle.schedule.specs.declared.event.Event.TheVariants as event
use Rattle.player.specs.declared.standing.Sizes.{Sizes}
use Rattle.player.specs.declared.standing.Place.{Place}
use Rattle.player.specs.declared.standing.Place.TheVariants as place
use Rattle.player.specs.declared.standing.Turn.{Turn}
use Rattle.player.specs.Rounds.{turn, ticks, delivers_y, delivers_x, runs, enters, next_turn}
use Rattle.player.specs.Ended.{rounds_of_event, under_way}

-- at most one round is ended or under way
abbrev pub IsOfOneRound : Turn → Type 0
IsOfOneRound t = rounds_of_event t.event + under_way t.place ≤ 1

one : 1 ≤ 1
one = omega arith

either : (b : Bool) (t e : Turn) → IsOfOneRound t → IsOfOneRound e → IsOfOneRound (if b then t else e)
either true t e is other = is
either false t e is other = other

pub not-last : (node : ℕ) → node < 16 → (if node == 16 then 1 else 0) + 1 ≤ 1
not-last node low = by (node == 16) refl
  where
    by : (last : Bool) → (node == 16) ≡ last → (if last then 1 else 0) + 1 ≤ 1
    by true is = let last = eqb-true node 16 is in omega (arith, last, low)
    by false is = one

ticks-one : (sizes : Sizes) (node : ℕ) → sizes.processors ≤ 16 → IsOfOneRound (ticks sizes node)
ticks-one sizes node few = by (nat_lt node sizes.processors) refl
  where
    by : (b : Bool) → nat_lt node sizes.processors ≡ b
        → IsOfOneRound (if b then turn (event.Tick node) (place.Ticks (node + 1)) else turn (event.Tick 16)
        place.Before)
    by true is = not-last node (let low = ltb-true node sizes.processors is in omega (arith, low, few))
    by false is = one

delivers_y-one : (sizes : Sizes) (left : ℕ) → sizes.processors ≤ 16 → IsOfOneRound (delivers_y sizes left)
delivers_y-one sizes left few = either (nat_lt 0 left) _ _ one (ticks-one sizes 0 few)

delivers_x-one : (sizes : Sizes) (y left : ℕ) → sizes.processors ≤ 16 → IsOfOneRound (delivers_x sizes y left)
delivers_x-one sizes y left few = either (nat_lt 0 left) _ _ one (delivers_y-one sizes y few)

runs-one : (sizes : Sizes) (x y process : ℕ) → sizes.processors ≤ 16 → IsOfOneRound (runs sizes x y process)
runs-one sizes x y process few = either (nat_lt process sizes.processes) _ _ one (delivers_x-one sizes y x few)

enters-one : (sizes : Sizes) (x y terminal : ℕ) → sizes.processors ≤ 16 → IsOfOneRound (enters sizes x y terminal)
enters-one sizes x y terminal few = either (nat_lt terminal sizes.terminals) _ _ one (runs-one sizes x y 0 few)

pub turn-one : (sizes : Sizes) (x y : ℕ) (place : Place) → sizes.processors ≤ 16
    → IsOfOneRound (next_turn sizes x y place)
turn-one sizes x y place.Before few = enters-one sizes x y 0 few
turn-one sizes x y (place.Enters terminal) few = enters-one sizes x y terminal few
turn-one sizes x y (place.Runs process) few = runs-one sizes x y process few
turn-one sizes x y (place.Delivers bus.X left) few = delivers_x-one sizes y left few
turn-one sizes x y (place.Delivers bus.Y left) few = delivers_y-one sizes left few
turn-one sizes x y (place.Ticks node) few = ticks-one sizes node few
