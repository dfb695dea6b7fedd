-- The events of one mixed round, part by part. How often a process runs, and which packet comes next and what becomes
-- of it, is drawn from the line's own generator. The order and the draws are our own rule.
use Rattle.std.specs.Prelude.{ℕ, zero, suc, ◌+◌, ◌-◌, ◌/◌, ◌%◌, ◌==◌, nat_lt, if◌then◌else◌}
use Rattle.gd_words.specs.declared.limits.TheConstants.{TERMINAL_NODE}
use Rattle.rand_pcg.specs.Lcg.{Lcg, started, increment_of}
use Rattle.rand_pcg.specs.Pcg.{multiplier_64, pcg32}
use Rattle.schedule.specs.declared.bus_name.BusName.{BusName}
use Rattle.schedule.specs.declared.bus_name.BusName.TheVariants as bus
use Rattle.schedule.specs.declared.event.Event.{Event}
use Rattle.schedule.specs.declared.event.Event.TheVariants as event
use Rattle.player.specs.declared.standing.Sizes.{Sizes}
use Rattle.player.specs.declared.standing.MixedPlace.{MixedPlace}
use Rattle.player.specs.declared.standing.MixedPlace.TheVariants as place
use Rattle.player.specs.declared.standing.MixedTurn.{MixedTurn}

-- where the generator of a line that begins from a number stands at first, on stream 54
abbrev pub first_draws : ℕ → ℕ
first_draws start = (started 64 multiplier_64 start (increment_of 64 54)).state

abbrev pub generator : ℕ → Lcg
generator draws = record { state = draws; increment = increment_of 64 54 }

-- the word that is drawn next, and where the generator stands then
abbrev pub word : ℕ → ℕ
word draws = (pcg32 (generator draws)).0

abbrev pub drawn : ℕ → ℕ
drawn draws = (pcg32 (generator draws)).1.state

abbrev pub turn : Event → MixedPlace → ℕ → MixedTurn
turn event place draws = record { event = event; place = place; draws = draws }

-- the tick of each node: of the processors, rising, and then of the terminals' node, with which the round is over
abbrev pub ticks : Sizes → ℕ → ℕ → MixedTurn
ticks sizes node draws =
    if nat_lt node sizes.processors then turn (event.Tick node) (place.Ticks (node + 1)) draws else turn
    (event.Tick TERMINAL_NODE) place.Before draws

-- what becomes of the packet at a position: it is repeated and then delivered, lost, or delivered
abbrev pub handled : BusName → ℕ → ℕ → ℕ → ℕ → MixedTurn
handled bus k choice left draws =
    if choice == 0 then turn (event.Repeat bus k) (place.Repeated bus k left) draws
    else if choice == 1 then turn (event.Lose bus k) (place.Delivers bus left) draws
    else turn (event.Deliver bus k) (place.Delivers bus left) draws

-- a word says which of the packets that are left comes next, and what becomes of it
abbrev pub drawn_packet : BusName → ℕ → ℕ → MixedTurn
drawn_packet bus left draws = handled bus (word draws / 8 % left) (word draws % 8) (left - 1) (drawn draws)

-- bus Y has its packets in a drawn order
abbrev pub delivers_y : Sizes → ℕ → ℕ → MixedTurn
delivers_y sizes left draws = if nat_lt 0 left then drawn_packet bus.Y left draws else ticks sizes 0 draws

-- and bus X before it; `y` packets are on bus Y
abbrev pub delivers_x : Sizes → ℕ → ℕ → ℕ → MixedTurn
delivers_x sizes y left draws = if nat_lt 0 left then drawn_packet bus.X left draws else delivers_y sizes y draws

-- of so many processes from this one on, each runs a drawn number of times, up to three; `x` and `y` packets are on the
-- buses
abbrev pub drawn_runs : Sizes → ℕ → ℕ → ℕ → ℕ → ℕ → MixedTurn
drawn_runs sizes x y zero process draws = delivers_x sizes y x draws
drawn_runs sizes x y (suc more) process draws =
    if nat_lt 0 (word draws % 4)
    then turn (event.Run process) (place.Runs (process + 1) (word draws % 4 - 1)) (drawn draws)
    else drawn_runs sizes x y more (process + 1) (drawn draws)

-- the turn comes to a process
abbrev pub runs_from : Sizes → ℕ → ℕ → ℕ → ℕ → MixedTurn
runs_from sizes x y process draws = drawn_runs sizes x y (sizes.processes - process) process draws

-- the process before `next` runs so many more times
abbrev pub runs : Sizes → ℕ → ℕ → ℕ → ℕ → ℕ → MixedTurn
runs sizes x y next left draws =
    if nat_lt 0 left then turn (event.Run (next - 1)) (place.Runs next (left - 1)) draws else runs_from sizes x y next
    draws

-- each terminal enters once, in deck order
abbrev pub enters : Sizes → ℕ → ℕ → ℕ → ℕ → MixedTurn
enters sizes x y terminal draws =
    if nat_lt terminal sizes.terminals then turn (event.Enter terminal) (place.Enters (terminal + 1)) draws else
    runs_from sizes x y 0 draws

-- the next event of a mixed round that stands at a place, with so many packets on buses X and Y
abbrev pub next_mixed : Sizes → ℕ → ℕ → MixedPlace → ℕ → MixedTurn
next_mixed sizes x y place.Before draws = enters sizes x y 0 draws
next_mixed sizes x y (place.Enters terminal) draws = enters sizes x y terminal draws
next_mixed sizes x y (place.Runs next left) draws = runs sizes x y next left draws
next_mixed sizes x y (place.Delivers bus.X left) draws = delivers_x sizes y left draws
next_mixed sizes x y (place.Delivers bus.Y left) draws = delivers_y sizes left draws
next_mixed sizes x y (place.Repeated bus k left) draws = turn (event.Deliver bus k) (place.Delivers bus left) draws
next_mixed sizes x y (place.Ticks node) draws = ticks sizes node draws
