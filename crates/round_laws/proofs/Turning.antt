-- Why the next event of a round is a turn of it.
use Rattle.std.proofs.Common.{◌≡◌, ◌<◌, ℕ, ◌+◌, ◌-◌, nat_lt, Bool, true, false, if◌then◌else◌, refl, arith}
use Rattle.std.proofs.lemmas.Bool.{ltb-true, ltb-false}
use Rattle.schedule.specs.declared.bus_name.BusName.TheVariants as bus
use Rattle.player.specs.declared.standing.Sizes.{Sizes}
use Rattle.player.specs.declared.standing.Place.{Place}
use Rattle.player.specs.declared.standing.Place.TheVariants as place
use Rattle.player.specs.declared.standing.Turn.{Turn}
use Rattle.player.specs.Rounds as player
use Rattle.round_laws.specs.Turns.{Turns, AllCame, is_early, due, ticked, enters, runs, delivers_x, delivers_y, ticks}
use Rattle.round_laws.specs.Turns.{ends}

abbrev IsTurn : Sizes → ℕ → ℕ → Place → Turn → Type 0
IsTurn sizes x y from turn = Turns sizes x y from turn.event turn.place

-- a part of the round has a turn left, or the next part comes
part : (sizes : Sizes) (x y : ℕ) (from : Place) (n m : ℕ) (one next : Turn) → (n < m → IsTurn sizes x y from one)
    → ((m < n + 1) → IsTurn sizes x y from next) → IsTurn sizes x y from (if nat_lt n m then one else next)
part sizes x y from n m one next here there = by (nat_lt n m) refl
  where
    by : (test : Bool) → nat_lt n m ≡ test → IsTurn sizes x y from (if test then one else next)
    by true is = here (ltb-true n m is)
    by false is = there (let most = ltb-false n m is in omega (arith, most))

of-ticks : (sizes : Sizes) (x y : ℕ) (from : Place) (node : ℕ) → AllCame x y from → ticked from ≡ node
    → IsTurn sizes x y from (player.ticks sizes node)
of-ticks sizes x y from node came at = part sizes x y from node sizes.processors _ _
    (λ low. ticks node low came at) (λ past. ends came (omega (arith, past, at)))

of-y : (sizes : Sizes) (x y : ℕ) (from : Place) (left : ℕ) → due from bus.X x ≡ 0 → due from bus.Y y ≡ left
    → ticked from ≡ 0 → IsTurn sizes x y from (player.delivers_y sizes left)
of-y sizes x y from left empty some at = part sizes x y from 0 left _ _
    (λ low. delivers_y (left - 1) empty (omega (arith, low, some)) at)
    (λ past. of-ticks sizes x y from 0 (empty, omega (arith, past, some)) at)

of-x : (sizes : Sizes) (x y : ℕ) (from : Place) (left : ℕ) → due from bus.X x ≡ left → due from bus.Y y ≡ y
    → ticked from ≡ 0 → IsTurn sizes x y from (player.delivers_x sizes y left)
of-x sizes x y from left some all at = part sizes x y from 0 left _ _
    (λ low. delivers_x (left - 1) (omega (arith, low, some)) at)
    (λ past. of-y sizes x y from y (omega (arith, past, some)) all at)

-- before anything was delivered
record IsEarly (x y : ℕ) (from : Place) : Type 0 where
  early : is_early from ≡ true
  all_x : due from bus.X x ≡ x
  all_y : due from bus.Y y ≡ y
  none_ticked : ticked from ≡ 0

of-runs : (sizes : Sizes) (x y : ℕ) (from : Place) (process : ℕ) → IsEarly x y from
    → IsTurn sizes x y from (player.runs sizes x y process)
of-runs sizes x y from process at = part sizes x y from process sizes.processes _ _
    (λ low. runs process at.early low) (λ past. of-x sizes x y from x at.all_x at.all_y at.none_ticked)

of-enters : (sizes : Sizes) (x y : ℕ) (from : Place) (terminal : ℕ) → IsEarly x y from
    → IsTurn sizes x y from (player.enters sizes x y terminal)
of-enters sizes x y from terminal at = part sizes x y from terminal sizes.terminals _ _
    (λ low. enters terminal at.early low) (λ past. of-runs sizes x y from 0 at)

pub turn-is : (sizes : Sizes) (x y : ℕ) (at : Place)
    → Turns sizes x y at (player.next_turn sizes x y at).event (player.next_turn sizes x y at).place
turn-is sizes x y place.Before =
    of-enters sizes x y place.Before 0 (record { early = refl; all_x = refl; all_y = refl; none_ticked = refl })
turn-is sizes x y (place.Enters terminal) = of-enters sizes x y (place.Enters terminal) terminal
    (record { early = refl; all_x = refl; all_y = refl; none_ticked = refl })
turn-is sizes x y (place.Runs process) = of-runs sizes x y (place.Runs process) process
    (record { early = refl; all_x = refl; all_y = refl; none_ticked = refl })
turn-is sizes x y (place.Delivers bus.X left) = of-x sizes x y (place.Delivers bus.X left) left refl refl refl
turn-is sizes x y (place.Delivers bus.Y left) = of-y sizes x y (place.Delivers bus.Y left) left refl refl refl
turn-is sizes x y (place.Ticks node) = of-ticks sizes x y (place.Ticks node) node (refl, refl) refl
