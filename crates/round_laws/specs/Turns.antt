-- The turns of a round, told by what is left of it: how many packets it still delivers from each bus, and how many
-- processors have ticked in it. Our own rule.
use Rattle.std.specs.Prelude.{◌≡◌, ◌≤◌, ◌<◌, ℕ, suc, ◌+◌, Bool, true, false}
use Rattle.schedule.specs.declared.bus_name.BusName.{BusName}
use Rattle.schedule.specs.declared.bus_name.BusName.TheVariants as bus
use Rattle.schedule.specs.declared.event.Event.{Event}
use Rattle.schedule.specs.declared.event.Event.TheVariants.{Run, Enter, Deliver, Tick}
use Rattle.player.specs.declared.standing.Sizes.{Sizes}
use Rattle.player.specs.gd_words.specs.declared.limits.TheConstants.{TERMINAL_NODE}
use Rattle.player.specs.declared.standing.Place.{Place}
use Rattle.player.specs.declared.standing.Place.TheVariants as place

-- the round hasn't delivered yet
abbrev pub is_early : Place → Bool
is_early place.Before = true
is_early (place.Enters terminal) = true
is_early (place.Runs process) = true
is_early (place.Delivers bus left) = false
is_early (place.Ticks node) = false

-- bus X has its turn, or bus Y: what each of them still delivers of the packets that are on it. All of them before its
-- turn, and none after it
abbrev pub due_in : BusName → ℕ → BusName → ℕ → ℕ
due_in bus.X left bus.X count = left
due_in bus.X left bus.Y count = count
due_in bus.Y left bus.X count = 0
due_in bus.Y left bus.Y count = left

-- how many of so many packets on a bus the round still delivers, where it stands at a place
abbrev pub due : Place → BusName → ℕ → ℕ
due place.Before bus count = count
due (place.Enters terminal) bus count = count
due (place.Runs process) bus count = count
due (place.Delivers one left) bus count = due_in one left bus count
due (place.Ticks node) bus count = 0

-- how many processors have had their turn to tick
abbrev pub ticked : Place → ℕ
ticked place.Before = 0
ticked (place.Enters terminal) = 0
ticked (place.Runs process) = 0
ticked (place.Delivers bus left) = 0
ticked (place.Ticks node) = node

-- nothing is due any more
abbrev pub AllCame : ℕ → ℕ → Place → Type 0
AllCame x y from = (due from bus.X x ≡ 0) × (due from bus.Y y ≡ 0)

-- with x packets on bus X and y on bus Y a round goes on from a place, by an event, to a place. Terminals enter and
-- processes run before anything is delivered; bus X delivers its first packet before bus Y does; and then each
-- processor
-- ticks, the lower ones first, and the node of the terminals last
pub data Turns (sizes : Sizes) (x y : ℕ) (from : Place) : Event → Place → Type 0 where
  enters : (terminal : ℕ) → is_early from ≡ true → terminal < sizes.terminals
      → Turns sizes x y from (Enter terminal) (place.Enters (terminal + 1))
  runs : (process : ℕ) → is_early from ≡ true → process < sizes.processes
      → Turns sizes x y from (Run process) (place.Runs (process + 1))
  delivers_x : (left : ℕ) → due from bus.X x ≡ suc left → ticked from ≡ 0
      → Turns sizes x y from (Deliver bus.X 0) (place.Delivers bus.X left)
  delivers_y : (left : ℕ) → due from bus.X x ≡ 0 → due from bus.Y y ≡ suc left → ticked from ≡ 0
      → Turns sizes x y from (Deliver bus.Y 0) (place.Delivers bus.Y left)
  ticks : (node : ℕ) → node < sizes.processors → AllCame x y from → ticked from ≡ node
      → Turns sizes x y from (Tick node) (place.Ticks (node + 1))
  ends : AllCame x y from → sizes.processors ≤ ticked from → Turns sizes x y from (Tick TERMINAL_NODE) place.Before
