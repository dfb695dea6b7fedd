-- Two buses, as events leave them: what is delivered is taken off, and whatever is sent comes behind what is there.
use Rattle.std.specs.Prelude.{◌≡◌, ℕ, List, [], ◌++◌, if◌then◌else◌, slice_get}
use Rattle.std.specs.List.{remove}
use Rattle.std.specs.Option.{option_to_list}
use Rattle.schedule.specs.Buses.{is_bus}
use Rattle.schedule.specs.declared.bus_name.BusName.{BusName}
use Rattle.schedule.specs.declared.event.Event.{Event}
use Rattle.schedule.specs.declared.event.Event.TheVariants.{Run, Enter, Deliver, Lose, Repeat, Tick, Fail, Reload}
use Rattle.schedule.specs.declared.event.Event.TheVariants.{Drive}

-- one more list behind it
abbrev pub IsGrown : {P : Type 0} → List P → List P → Type 0
IsGrown {P} before after = (more : List P) × (after ≡ before ++ more)

-- what an event delivers of the packets on a bus
abbrev pub delivered_of : {P : Type 0} → BusName → Event → List P → List P
delivered_of {P} bus (Run process) packets = []
delivered_of {P} bus (Enter terminal) packets = []
delivered_of {P} bus (Deliver one k) packets = if is_bus one bus then option_to_list (slice_get packets k) else []
delivered_of {P} bus (Lose one k) packets = []
delivered_of {P} bus (Repeat one k) packets = []
delivered_of {P} bus (Tick node) packets = []
delivered_of {P} bus (Fail processor) packets = []
delivered_of {P} bus (Reload processor) packets = []
delivered_of {P} bus (Drive event) packets = []

abbrev pub without_one : {P : Type 0} → BusName → BusName → ℕ → List P → List P
without_one {P} bus one k packets = if is_bus one bus then remove packets k else packets

-- an event leaves a bus with these packets so
abbrev pub Leaves : {P : Type 0} → BusName → Event → List P → List P → Type 0
Leaves {P} bus (Run process) before after = IsGrown before after
Leaves {P} bus (Enter terminal) before after = IsGrown before after
Leaves {P} bus (Deliver one k) before after = IsGrown (without_one bus one k before) after
Leaves {P} bus (Lose one k) before after = IsGrown (without_one bus one k before) after
Leaves {P} bus (Repeat one k) before after = IsGrown before after
Leaves {P} bus (Tick node) before after = IsGrown before after
Leaves {P} bus (Fail processor) before after = after ≡ before
Leaves {P} bus (Reload processor) before after = after ≡ before
Leaves {P} bus (Drive event) before after = after ≡ before

-- a machine with two buses
abbrev pub HasBuses : {S P : Type 0} → (S → BusName → List P) → (S → Event → S → Type 0) → Type 0
HasBuses {S} {P} buses goes = (s : S) (event : Event) (next : S) → goes s event next → (bus : BusName)
    → Leaves bus event (buses s bus) (buses next bus)

-- the least of them: two buses of numbered packets, and nothing else
abbrev pub Buses : Type 0
Buses = BusName → List ℕ

abbrev pub BusesGo : Buses → Event → Buses → Type 0
BusesGo before event after = (bus : BusName) → Leaves bus event (before bus) (after bus)

abbrev pub themselves : Buses → BusName → List ℕ
themselves buses = buses
