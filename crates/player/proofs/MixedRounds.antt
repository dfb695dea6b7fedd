-- A turn of a mixed round ends it or leaves it under way.
use Rattle.std.proofs.Common.{◌≡◌, ℕ, zero, suc, ◌+◌, ◌-◌, ◌/◌, ◌%◌, ◌≤◌, ◌==◌, Bool, true, false, nat_lt}
use Rattle.std.proofs.Common.{if◌then◌else◌, refl, arith}
use Rattle.std.proofs.lemmas.Bool.{ltb-true}
use Rattle.schedule.specs.declared.bus_name.BusName.{BusName}
use Rattle.schedule.specs.declared.bus_name.BusName.TheVariants as bus
use Rattle.schedule.specs.declared.event.Event.TheVariants as event
use Rattle.player.specs.declared.standing.Sizes.{Sizes}
use Rattle.player.specs.declared.standing.MixedPlace.{MixedPlace}
use Rattle.player.specs.declared.standing.MixedPlace.TheVariants as place
use Rattle.player.specs.declared.standing.MixedTurn.{MixedTurn}
use Rattle.player.specs.Mixes.{word, drawn, turn, ticks, handled, drawn_packet, delivers_y, delivers_x, drawn_runs}
use Rattle.player.specs.Mixes.{runs_from, runs, enters, next_mixed}
use Rattle.player.specs.Ended.{rounds_of_event, under_way_mixed}
use Rattle.player.proofs.Rounds.{not-last}

abbrev pub IsOfOneMixed : MixedTurn → Type 0
IsOfOneMixed t = rounds_of_event t.event + under_way_mixed t.place ≤ 1

one : 1 ≤ 1
one = omega arith

either : (b : Bool) (t e : MixedTurn) → IsOfOneMixed t → IsOfOneMixed e → IsOfOneMixed (if b then t else e)
either true t e is other = is
either false t e is other = other

ticks-one : (sizes : Sizes) (node draws : ℕ) → sizes.processors ≤ 16 → IsOfOneMixed (ticks sizes node draws)
ticks-one sizes node draws few = by (nat_lt node sizes.processors) refl
  where
    by : (b : Bool) → nat_lt node sizes.processors ≡ b
        → IsOfOneMixed (if b then turn (event.Tick node) (place.Ticks (node + 1)) draws else turn (event.Tick 16)
        place.Before draws)
    by true is = not-last node (let low = ltb-true node sizes.processors is in omega (arith, low, few))
    by false is = one

handled-one : (bus : BusName) (k choice left draws : ℕ) → IsOfOneMixed (handled bus k choice left draws)
handled-one bus k choice left draws = either (choice == 0) _ _ one (either (choice == 1) _ _ one one)

packet-one : (bus : BusName) (left draws : ℕ) → IsOfOneMixed (drawn_packet bus left draws)
packet-one bus left draws = handled-one bus (word draws / 8 % left) (word draws % 8) (left - 1) (drawn draws)

delivers_y-one : (sizes : Sizes) (left draws : ℕ) → sizes.processors ≤ 16 → IsOfOneMixed (delivers_y sizes left draws)
delivers_y-one sizes left draws few =
    either (nat_lt 0 left) _ _ (packet-one bus.Y left draws) (ticks-one sizes 0 draws few)

delivers_x-one : (sizes : Sizes) (y left draws : ℕ) → sizes.processors ≤ 16
    → IsOfOneMixed (delivers_x sizes y left draws)
delivers_x-one sizes y left draws few =
    either (nat_lt 0 left) _ _ (packet-one bus.X left draws) (delivers_y-one sizes y draws few)

drawn_runs-one : (sizes : Sizes) (x y more process draws : ℕ) → sizes.processors ≤ 16
    → IsOfOneMixed (drawn_runs sizes x y more process draws)
drawn_runs-one sizes x y zero process draws few = delivers_x-one sizes y x draws few
drawn_runs-one sizes x y (suc more) process draws few =
    either (nat_lt 0 (word draws % 4)) _ _ one (drawn_runs-one sizes x y more (process + 1) (drawn draws) few)

runs_from-one : (sizes : Sizes) (x y process draws : ℕ) → sizes.processors ≤ 16
    → IsOfOneMixed (runs_from sizes x y process draws)
runs_from-one sizes x y process draws few = drawn_runs-one sizes x y (sizes.processes - process) process draws few

runs-one : (sizes : Sizes) (x y next left draws : ℕ) → sizes.processors ≤ 16
    → IsOfOneMixed (runs sizes x y next left draws)
runs-one sizes x y next left draws few = either (nat_lt 0 left) _ _ one (runs_from-one sizes x y next draws few)

enters-one : (sizes : Sizes) (x y terminal draws : ℕ) → sizes.processors ≤ 16
    → IsOfOneMixed (enters sizes x y terminal draws)
enters-one sizes x y terminal draws few =
    either (nat_lt terminal sizes.terminals) _ _ one (runs_from-one sizes x y 0 draws few)

pub mixed-one : (sizes : Sizes) (x y : ℕ) (place : MixedPlace) (draws : ℕ) → sizes.processors ≤ 16
    → IsOfOneMixed (next_mixed sizes x y place draws)
mixed-one sizes x y place.Before draws few = enters-one sizes x y 0 draws few
mixed-one sizes x y (place.Enters terminal) draws few = enters-one sizes x y terminal draws few
mixed-one sizes x y (place.Runs next left) draws few = runs-one sizes x y next left draws few
mixed-one sizes x y (place.Delivers bus.X left) draws few = delivers_x-one sizes y left draws few
mixed-one sizes x y (place.Delivers bus.Y left) draws few = delivers_y-one sizes left draws few
mixed-one sizes x y (place.Repeated bus k left) draws few = one
mixed-one sizes x y (place.Ticks node) draws few = ticks-one sizes node draws few
