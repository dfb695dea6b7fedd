-- How many events are left of a round, and that each turn takes one.
use Rattle.std.proofs.Common.{◌≡◌, ◌≤◌, ◌<◌, ℕ, zero, suc, ◌+◌, ◌-◌, ◌*◌, ◌/◌, ◌%◌, ◌==◌, Bool, true, false}
use Rattle.std.proofs.Common.{if◌then◌else◌, nat_lt, refl, arith, mod-lt}
use Rattle.std.proofs.lemmas.Bool.{ltb-true}
use Rattle.schedule.specs.declared.bus_name.BusName.{BusName}
use Rattle.schedule.specs.declared.bus_name.BusName.TheVariants as bus
use Rattle.player.specs.declared.standing.Sizes.{Sizes}
use Rattle.player.specs.declared.standing.Place.{Place}
use Rattle.player.specs.declared.standing.Place.TheVariants as place
use Rattle.player.specs.declared.standing.Turn.{Turn}
use Rattle.player.specs.declared.standing.MixedPlace.{MixedPlace}
use Rattle.player.specs.declared.standing.MixedPlace.TheVariants as mixed
use Rattle.player.specs.declared.standing.MixedTurn.{MixedTurn}
use Rattle.player.specs.Rounds as r
use Rattle.player.specs.Mixes as m
use Rattle.line_lengths.specs.Lengths.{Room, most_in_round}

-- what is left of a round that stands at a place
abbrev pub left_at : Sizes → Room → Place → ℕ
left_at sizes room place.Before = 0
left_at sizes room (place.Enters terminal) =
    (sizes.terminals - terminal) + sizes.processes + room.x + room.y + sizes.processors + 1
left_at sizes room (place.Runs process) = (sizes.processes - process) + room.x + room.y + sizes.processors + 1
left_at sizes room (place.Delivers bus.X left) = left + room.y + sizes.processors + 1
left_at sizes room (place.Delivers bus.Y left) = left + sizes.processors + 1
left_at sizes room (place.Ticks node) = (sizes.processors - node) + 1

-- and of a mixed one
abbrev pub left_at_mixed : Sizes → Room → MixedPlace → ℕ
left_at_mixed sizes room mixed.Before = 0
left_at_mixed sizes room (mixed.Enters terminal) =
    (sizes.terminals - terminal) + 3 * sizes.processes + 2 * room.x + 2 * room.y + sizes.processors + 1
left_at_mixed sizes room (mixed.Runs next left) =
    left + 3 * (sizes.processes - next) + 2 * room.x + 2 * room.y + sizes.processors + 1
left_at_mixed sizes room (mixed.Delivers bus.X left) = 2 * left + 2 * room.y + sizes.processors + 1
left_at_mixed sizes room (mixed.Delivers bus.Y left) = 2 * left + sizes.processors + 1
left_at_mixed sizes room (mixed.Repeated bus.X k left) = 2 * left + 2 * room.y + sizes.processors + 2
left_at_mixed sizes room (mixed.Repeated bus.Y k left) = 2 * left + sizes.processors + 2
left_at_mixed sizes room (mixed.Ticks node) = (sizes.processors - node) + 1

same : (n : ℕ) → n ≤ n
same n = omega arith

-- the events that are left where the parts before the ticks are over, and those where bus Y has its part
abbrev all_ticks : Sizes → ℕ
all_ticks sizes = sizes.processors + 1

module _ (sizes : Sizes) (room : Room) where
  -- a turn takes one of so many
  abbrev Takes : ℕ → Turn → Type 0
  Takes before turn = left_at sizes room turn.place + 1 ≤ before

  either : (test : Bool) (before : ℕ) (one other : Turn) → (test ≡ true → Takes before one)
      → (test ≡ false → Takes before other)
      → Takes before (if test then one else other)
  either true before one other takes otherwise = takes refl
  either false before one other takes otherwise = otherwise refl

  ticks : (node before : ℕ) → (sizes.processors - node) + 1 ≤ before → Takes before (r.ticks sizes node)
  ticks node before most =
      either (nat_lt node sizes.processors) before _ _
      (λ is. let low = ltb-true node sizes.processors is in omega (arith, low, most)) (λ is. omega (arith, most))

  delivers-y : (left before : ℕ) → left + sizes.processors + 1 ≤ before → Takes before (r.delivers_y sizes left)
  delivers-y left before most =
      either (nat_lt 0 left) before _ _ (λ is. let low = ltb-true 0 left is in omega (arith, low, most))
      (λ is. ticks 0 before (omega (arith, most)))

  module _ (y : ℕ) (few_y : y ≤ room.y) where
    delivers-x : (left before : ℕ) → left + room.y + sizes.processors + 1 ≤ before
        → Takes before (r.delivers_x sizes y left)
    delivers-x left before most =
        either (nat_lt 0 left) before _ _ (λ is. let low = ltb-true 0 left is in omega (arith, low, most))
        (λ is. delivers-y y before (omega (arith, most, few_y)))

    module _ (x : ℕ) (few_x : x ≤ room.x) where
      runs : (process before : ℕ) → (sizes.processes - process) + room.x + room.y + sizes.processors + 1 ≤ before
          → Takes before (r.runs sizes x y process)
      runs process before most =
          either (nat_lt process sizes.processes) before _ _
          (λ is. let low = ltb-true process sizes.processes is in omega (arith, low, most))
          (λ is. delivers-x x before (omega (arith, few_x, most)))

      enters : (terminal before : ℕ)
          → (sizes.terminals - terminal) + sizes.processes + room.x + room.y + sizes.processors + 1 ≤ before
          → Takes before (r.enters sizes x y terminal)
      enters terminal before most =
          either (nat_lt terminal sizes.terminals) before _ _
          (λ is. let low = ltb-true terminal sizes.terminals is in omega (arith, low, most))
          (λ is. runs 0 before (omega (arith, most)))

      -- the first turn of a round
      pub first-turn : left_at sizes room (r.next_turn sizes x y place.Before).place + 1 ≤ most_in_round sizes room
      first-turn = enters 0 (most_in_round sizes room) (omega arith)

      -- and each of the others
      pub later-turn : (at : Place) → (at ≡ place.Before → ⊥)
          → left_at sizes room (r.next_turn sizes x y at).place + 1 ≤ left_at sizes room at
      later-turn place.Before later = absurd (later refl)
      later-turn (place.Enters terminal) later = enters terminal _ (same _)
      later-turn (place.Runs process) later = runs process _ (same _)
      later-turn (place.Delivers bus.X left) later = delivers-x left _ (same _)
      later-turn (place.Delivers bus.Y left) later = delivers-y left _ (same _)
      later-turn (place.Ticks node) later = ticks node _ (same _)

  -- Mixed rounds

  abbrev TakesMixed : ℕ → MixedTurn → Type 0
  TakesMixed before turn = left_at_mixed sizes room turn.place + 1 ≤ before

  either-mixed : (test : Bool) (before : ℕ) (one other : MixedTurn) → (test ≡ true → TakesMixed before one)
      → (test ≡ false → TakesMixed before other) → TakesMixed before (if test then one else other)
  either-mixed true before one other takes otherwise = takes refl
  either-mixed false before one other takes otherwise = otherwise refl

  ticks-mixed : (node draws before : ℕ) → (sizes.processors - node) + 1 ≤ before
      → TakesMixed before (m.ticks sizes node draws)
  ticks-mixed node draws before most =
      either-mixed (nat_lt node sizes.processors) before _ _
      (λ is. let low = ltb-true node sizes.processors is in omega (arith, low, most))
      (λ is. omega (arith, most))

  -- what is left behind the packets of a bus
  abbrev behind : BusName → ℕ
  behind bus.X = 2 * room.y + sizes.processors + 1
  behind bus.Y = sizes.processors + 1

  handled : (bus : BusName) (k choice left draws before : ℕ) → 2 * (left + 1) + behind bus ≤ before
      → TakesMixed before (m.handled bus k choice left draws)
  handled bus.X k choice left draws before most =
      either-mixed (choice == 0) before _ _ (λ is. omega (arith, most))
      (λ is. either-mixed (choice == 1) before _ _ (λ is. omega (arith, most)) (λ is. omega (arith, most)))
  handled bus.Y k choice left draws before most =
      either-mixed (choice == 0) before _ _ (λ is. omega (arith, most))
      (λ is. either-mixed (choice == 1) before _ _ (λ is. omega (arith, most)) (λ is. omega (arith, most)))

  packet : (bus : BusName) (left draws before : ℕ) → 0 < left → 2 * left + behind bus ≤ before
      → TakesMixed before (m.drawn_packet bus left draws)
  packet bus left draws before some most =
      handled bus (m.word draws / 8 % left) (m.word draws % 8) (left - 1) (m.drawn draws) before
      (omega (arith, some, most))

  delivers-y-mixed : (left draws before : ℕ) → 2 * left + sizes.processors + 1 ≤ before
      → TakesMixed before (m.delivers_y sizes left draws)
  delivers-y-mixed left draws before most =
      either-mixed (nat_lt 0 left) before _ _
      (λ is. packet bus.Y left draws before (ltb-true 0 left is) (omega (arith, most)))
      (λ is. ticks-mixed 0 draws before (omega (arith, most)))

  module _ (y : ℕ) (few_y : y ≤ room.y) where
    delivers-x-mixed : (left draws before : ℕ) → 2 * left + 2 * room.y + sizes.processors + 1 ≤ before
        → TakesMixed before (m.delivers_x sizes y left draws)
    delivers-x-mixed left draws before most =
        either-mixed (nat_lt 0 left) before _ _
        (λ is. packet bus.X left draws before (ltb-true 0 left is) (omega (arith, most)))
        (λ is. delivers-y-mixed y draws before (omega (arith, most, few_y)))

    module _ (x : ℕ) (few_x : x ≤ room.x) where
      drawn-runs : (more process draws before : ℕ) → sizes.processes - process ≡ more
          → 3 * more + 2 * room.x + 2 * room.y + sizes.processors + 1 ≤ before
          → TakesMixed before (m.drawn_runs sizes x y more process draws)
      drawn-runs zero process draws before count most =
          delivers-x-mixed x draws before (omega (arith, few_x, most))
      drawn-runs (suc more) process draws before count most =
          either-mixed (nat_lt 0 (m.word draws % 4)) before _ _
          (λ is. let low : m.word draws % 4 < 4 = mod-lt (m.word draws) (omega arith) in
          let some = ltb-true 0 (m.word draws % 4) is in omega (arith, low, some, count, most))
          (λ is. drawn-runs more (process + 1) (m.drawn draws) before (omega (arith, count)) (omega (arith, most)))

      runs-from : (process draws before : ℕ)
          → 3 * (sizes.processes - process) + 2 * room.x + 2 * room.y + sizes.processors + 1 ≤ before
          → TakesMixed before (m.runs_from sizes x y process draws)
      runs-from process draws before most =
          drawn-runs (sizes.processes - process) process draws before refl most

      runs-mixed : (next left draws before : ℕ)
          → left + 3 * (sizes.processes - next) + 2 * room.x + 2 * room.y + sizes.processors + 1 ≤ before
          → TakesMixed before (m.runs sizes x y next left draws)
      runs-mixed next left draws before most =
          either-mixed (nat_lt 0 left) before _ _ (λ is. let some = ltb-true 0 left is in omega (arith, some, most))
          (λ is. runs-from next draws before (omega (arith, most)))

      enters-mixed : (terminal draws before : ℕ)
          → (sizes.terminals - terminal) + 3 * sizes.processes + 2 * room.x + 2 * room.y + sizes.processors + 1
          ≤ before
          → TakesMixed before (m.enters sizes x y terminal draws)
      enters-mixed terminal draws before most =
          either-mixed (nat_lt terminal sizes.terminals) before _ _
          (λ is. let low = ltb-true terminal sizes.terminals is in omega (arith, low, most))
          (λ is. runs-from 0 draws before (omega (arith, most)))

      pub first-mixed : (draws : ℕ)
          → left_at_mixed sizes room (m.next_mixed sizes x y mixed.Before draws).place + 1 ≤ most_in_round sizes room
      first-mixed draws = enters-mixed 0 draws (most_in_round sizes room) (omega arith)

      pub later-mixed : (at : MixedPlace) (draws : ℕ) → (at ≡ mixed.Before → ⊥)
          → left_at_mixed sizes room (m.next_mixed sizes x y at draws).place + 1 ≤ left_at_mixed sizes room at
      later-mixed mixed.Before draws later = absurd (later refl)
      later-mixed (mixed.Enters terminal) draws later = enters-mixed terminal draws _ (same _)
      later-mixed (mixed.Runs next left) draws later = runs-mixed next left draws _ (same _)
      later-mixed (mixed.Delivers bus.X left) draws later = delivers-x-mixed left draws _ (same _)
      later-mixed (mixed.Delivers bus.Y left) draws later = delivers-y-mixed left draws _ (same _)
      later-mixed (mixed.Repeated bus.X k left) draws later = omega arith
      later-mixed (mixed.Repeated bus.Y k left) draws later = omega arith
      later-mixed (mixed.Ticks node) draws later = ticks-mixed node draws _ (same _)
