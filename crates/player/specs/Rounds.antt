-- The events of one round, part by part: the terminals enter, the processes run, the buses deliver, the nodes tick. A
-- part with nothing in it is passed over, with the packets that there are when its turn comes. The order is our own
-- rule.
use Rattle.std.specs.Prelude.{ℕ, ◌+◌, ◌-◌, nat_lt, if◌then◌else◌}
use Rattle.gd_words.specs.declared.limits.TheConstants.{TERMINAL_NODE}
use Rattle.schedule.specs.declared.bus_name.BusName.TheVariants as bus
use Rattle.schedule.specs.declared.event.Event.{Event}
use Rattle.schedule.specs.declared.event.Event.TheVariants as event
use Rattle.player.specs.declared.standing.Sizes.{Sizes}
use Rattle.player.specs.declared.standing.Place.{Place}
use Rattle.player.specs.declared.standing.Place.TheVariants as place
use Rattle.player.specs.declared.standing.Turn.{Turn}

abbrev pub turn : Event → Place → Turn
turn event place = record { event = event; place = place }

-- the tick of each node: of the processors, rising, and then of the terminals' node, with which the round is over
abbrev pub ticks : Sizes → ℕ → Turn
ticks sizes node = if nat_lt node sizes.processors then turn (event.Tick node) (place.Ticks (node + 1)) else turn
    (event.Tick TERMINAL_NODE) place.Before

-- bus Y delivers its first packet as often as there were packets when its part began
abbrev pub delivers_y : Sizes → ℕ → Turn
delivers_y sizes left =
    if nat_lt 0 left then turn (event.Deliver bus.Y 0) (place.Delivers bus.Y (left - 1)) else ticks sizes 0

-- and bus X before it; `y` packets are on bus Y
abbrev pub delivers_x : Sizes → ℕ → ℕ → Turn
delivers_x sizes y left =
    if nat_lt 0 left then turn (event.Deliver bus.X 0) (place.Delivers bus.X (left - 1)) else delivers_y sizes y

-- each process runs once, in deck order; `x` and `y` packets are on the buses
abbrev pub runs : Sizes → ℕ → ℕ → ℕ → Turn
runs sizes x y process =
    if nat_lt process sizes.processes then turn (event.Run process) (place.Runs (process + 1)) else delivers_x sizes y x

-- each terminal enters once, in deck order
abbrev pub enters : Sizes → ℕ → ℕ → ℕ → Turn
enters sizes x y terminal =
    if nat_lt terminal sizes.terminals then turn (event.Enter terminal) (place.Enters (terminal + 1)) else runs sizes x
    y 0

-- the next event of a round that stands at a place, with so many packets on buses X and Y
abbrev pub next_turn : Sizes → ℕ → ℕ → Place → Turn
next_turn sizes x y place.Before = enters sizes x y 0
next_turn sizes x y (place.Enters terminal) = enters sizes x y terminal
next_turn sizes x y (place.Runs process) = runs sizes x y process
next_turn sizes x y (place.Delivers bus.X left) = delivers_x sizes y left
next_turn sizes x y (place.Delivers bus.Y left) = delivers_y sizes left
next_turn sizes x y (place.Ticks node) = ticks sizes node
