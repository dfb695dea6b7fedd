-- No event of a round stops a processor.
use Rattle.std.proofs.Common.{◌≡◌, ℕ, zero, suc, ◌+◌, ◌-◌, ◌%◌, ◌/◌, ◌==◌, Bool, true, false, if◌then◌else◌, refl}
use Rattle.std.specs.Prelude.{nat_lt}
use Rattle.schedule.specs.declared.bus_name.BusName.{BusName}
use Rattle.schedule.specs.declared.bus_name.BusName.TheVariants as bus
use Rattle.player.specs.declared.standing.Sizes.{Sizes}
use Rattle.player.specs.declared.standing.Place.{Place}
use Rattle.player.specs.declared.standing.Place.TheVariants as place
use Rattle.player.specs.declared.standing.Turn.{Turn}
use Rattle.player.specs.declared.standing.MixedPlace.{MixedPlace}
use Rattle.player.specs.declared.standing.MixedPlace.TheVariants as mixed
use Rattle.player.specs.declared.standing.MixedTurn.{MixedTurn}
use Rattle.player.specs.Rounds as r
use Rattle.player.specs.Mixes as m
use Rattle.single_stops.specs.StopsAsked.{stops_in}

-- the turn's event stops no processor
abbrev IsCalm : Turn → Type 0
IsCalm turn = stops_in turn.event 1 ≡ 0

either : (test : Bool) (one other : Turn) → IsCalm one → IsCalm other → IsCalm (if test then one else other)
either true one other calm calm_other = calm
either false one other calm calm_other = calm_other

ticks : (sizes : Sizes) (node : ℕ) → IsCalm (r.ticks sizes node)
ticks sizes node = either (nat_lt node sizes.processors) _ _ refl refl

delivers-y : (sizes : Sizes) (left : ℕ) → IsCalm (r.delivers_y sizes left)
delivers-y sizes left = either (nat_lt 0 left) _ _ refl (ticks sizes 0)

delivers-x : (sizes : Sizes) (y left : ℕ) → IsCalm (r.delivers_x sizes y left)
delivers-x sizes y left = either (nat_lt 0 left) _ _ refl (delivers-y sizes y)

runs : (sizes : Sizes) (x y process : ℕ) → IsCalm (r.runs sizes x y process)
runs sizes x y process = either (nat_lt process sizes.processes) _ _ refl (delivers-x sizes y x)

enters : (sizes : Sizes) (x y terminal : ℕ) → IsCalm (r.enters sizes x y terminal)
enters sizes x y terminal = either (nat_lt terminal sizes.terminals) _ _ refl (runs sizes x y 0)

pub turn-calm : (sizes : Sizes) (x y : ℕ) (at : Place) → stops_in (r.next_turn sizes x y at).event 1 ≡ 0
turn-calm sizes x y place.Before = enters sizes x y 0
turn-calm sizes x y (place.Enters terminal) = enters sizes x y terminal
turn-calm sizes x y (place.Runs process) = runs sizes x y process
turn-calm sizes x y (place.Delivers bus.X left) = delivers-x sizes y left
turn-calm sizes x y (place.Delivers bus.Y left) = delivers-y sizes left
turn-calm sizes x y (place.Ticks node) = ticks sizes node

-- The same of mixed rounds

abbrev IsCalmMixed : MixedTurn → Type 0
IsCalmMixed turn = stops_in turn.event 1 ≡ 0

either-mixed : (test : Bool) (one other : MixedTurn) → IsCalmMixed one → IsCalmMixed other
    → IsCalmMixed (if test then one else other)
either-mixed true one other calm calm_other = calm
either-mixed false one other calm calm_other = calm_other

ticks-mixed : (sizes : Sizes) (node draws : ℕ) → IsCalmMixed (m.ticks sizes node draws)
ticks-mixed sizes node draws = either-mixed (nat_lt node sizes.processors) _ _ refl refl

handled : (bus : BusName) (k choice left draws : ℕ) → IsCalmMixed (m.handled bus k choice left draws)
handled bus k choice left draws = either-mixed (choice == 0) _ _ refl (either-mixed (choice == 1) _ _ refl refl)

delivers-y-mixed : (sizes : Sizes) (left draws : ℕ) → IsCalmMixed (m.delivers_y sizes left draws)
delivers-y-mixed sizes left draws =
    either-mixed (nat_lt 0 left) _ _ (handled bus.Y (m.word draws / 8 % left) (m.word draws % 8) (left - 1)
    (m.drawn draws)) (ticks-mixed sizes 0 draws)

delivers-x-mixed : (sizes : Sizes) (y left draws : ℕ) → IsCalmMixed (m.delivers_x sizes y left draws)
delivers-x-mixed sizes y left draws =
    either-mixed (nat_lt 0 left) _ _ (handled bus.X (m.word draws / 8 % left) (m.word draws % 8) (left - 1)
    (m.drawn draws)) (delivers-y-mixed sizes y draws)

drawn-runs : (sizes : Sizes) (x y more process draws : ℕ) → IsCalmMixed (m.drawn_runs sizes x y more process draws)
drawn-runs sizes x y zero process draws = delivers-x-mixed sizes y x draws
drawn-runs sizes x y (suc more) process draws =
    either-mixed (nat_lt 0 (m.word draws % 4)) _ _ refl (drawn-runs sizes x y more (process + 1) (m.drawn draws))

runs-from : (sizes : Sizes) (x y process draws : ℕ) → IsCalmMixed (m.runs_from sizes x y process draws)
runs-from sizes x y process draws = drawn-runs sizes x y (sizes.processes - process) process draws

pub mixed-calm : (sizes : Sizes) (x y : ℕ) (at : MixedPlace) (draws : ℕ)
    → stops_in (m.next_mixed sizes x y at draws).event 1 ≡ 0
mixed-calm sizes x y mixed.Before draws = either-mixed (nat_lt 0 sizes.terminals) _ _ refl (runs-from sizes x y 0 draws)
mixed-calm sizes x y (mixed.Enters terminal) draws =
    either-mixed (nat_lt terminal sizes.terminals) _ _ refl (runs-from sizes x y 0 draws)
mixed-calm sizes x y (mixed.Runs next left) draws =
    either-mixed (nat_lt 0 left) _ _ refl (runs-from sizes x y next draws)
mixed-calm sizes x y (mixed.Delivers bus.X left) draws = delivers-x-mixed sizes y left draws
mixed-calm sizes x y (mixed.Delivers bus.Y left) draws = delivers-y-mixed sizes left draws
mixed-calm sizes x y (mixed.Repeated bus k left) draws = refl
mixed-calm sizes x y (mixed.Ticks node) draws = ticks-mixed sizes node draws
