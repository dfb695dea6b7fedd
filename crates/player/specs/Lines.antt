-- Which event comes next on a line of a schedule. The lines are our own.
use Rattle.std.specs.Prelude.{ℕ, ◌-◌, ◌==◌, ◌&&◌, ◌||◌, nat_lt, nat_le, Bool, true, false, Option, Some, None}
use Rattle.std.specs.Prelude.{if◌then◌else◌}
use Rattle.std.specs.Option.{option_map}
use Rattle.schedule.specs.declared.bus_name.BusName.{BusName}
use Rattle.schedule.specs.declared.bus_name.BusName.TheVariants as bus
use Rattle.schedule.specs.declared.event.Event.{Event}
use Rattle.schedule.specs.declared.event.Event.TheVariants as event
use Rattle.schedule.specs.declared.event.Counts.{Counts}
use Rattle.schedule.specs.declared.line.Line.{Line}
use Rattle.schedule.specs.declared.line.Line.TheVariants.{One, Many, Drain, Mix, Mute, Until}
use Rattle.player.specs.declared.standing.Sizes.{Sizes}
use Rattle.player.specs.declared.standing.Place.{Place}
use Rattle.player.specs.declared.standing.Place.TheVariants as place
use Rattle.player.specs.declared.standing.Turn.{Turn}
use Rattle.player.specs.declared.standing.MixedPlace.{MixedPlace}
use Rattle.player.specs.declared.standing.MixedPlace.TheVariants as mixed
use Rattle.player.specs.declared.standing.MixedTurn.{MixedTurn}
use Rattle.player.specs.declared.standing.Rule.{Rule}
use Rattle.player.specs.declared.standing.Rule.TheVariants as rule
use Rattle.player.specs.declared.standing.LinePlace.{LinePlace}
use Rattle.player.specs.declared.standing.LinePlace.TheVariants as standing
use Rattle.player.specs.declared.standing.Move.{Move}
use Rattle.player.specs.Rounds.{next_turn}
use Rattle.player.specs.Mixes.{first_draws, next_mixed}

-- where a line stands at first
abbrev pub begun : Line → LinePlace
begun (One event) = standing.Event event 1
begun (Many event times) = standing.Event event times
begun (Drain rounds) = standing.Rounds rule.Drain rounds place.Before
begun (Mute node rounds) = standing.Rounds (rule.Mute node) rounds place.Before
begun (Until writes count rounds) = standing.Rounds (rule.Until writes count) rounds place.Before
begun (Mix start rounds) = standing.Mixed rounds mixed.Before (first_draws start)

abbrev pub is_before : Place → Bool
is_before place.Before = true
is_before _ = false

abbrev pub moved : Rule → ℕ → Turn → Move
moved rule left turn = record { event = turn.event; standing = standing.Rounds rule left turn.place }

abbrev pub is_before_mixed : MixedPlace → Bool
is_before_mixed mixed.Before = true
is_before_mixed _ = false

abbrev pub moved_mixed : ℕ → MixedTurn → Move
moved_mixed left turn = record { event = turn.event; standing = standing.Mixed left turn.place turn.draws }

-- the next event where nothing ends the line early and no packet is an alive one, with so many packets on buses X and
-- Y; none where nothing is left of the line
abbrev pub proposed : Sizes → ℕ → ℕ → LinePlace → Option Move
proposed sizes x y standing.Ended = None
proposed sizes x y (standing.Event event left) =
    if nat_lt 0 left then Some (record { event = event; standing = standing.Event event (left - 1) }) else None
proposed sizes x y (standing.Rounds rule left place) =
    if is_before place
    then (if nat_lt 0 left then Some (moved rule (left - 1) (next_turn sizes x y place)) else None)
    else Some (moved rule left (next_turn sizes x y place))
proposed sizes x y (standing.Mixed left place draws) =
    if is_before_mixed place
    then (if nat_lt 0 left then Some (moved_mixed (left - 1) (next_mixed sizes x y place draws)) else None)
    else Some (moved_mixed left (next_mixed sizes x y place draws))

-- whether a line of this rule ends where the machine is idle before a round
abbrev pub minds_idle : Rule → Bool
minds_idle (rule.Mute node) = false
minds_idle _ = true

-- whether the count of writes or replies is reached
abbrev pub is_reached : Rule → Counts → Bool
is_reached (rule.Until true count) counts = nat_le count counts.writes
is_reached (rule.Until false count) counts = nat_le count counts.replies
is_reached _ counts = false

-- whether the next event depends on whether the machine is idle
abbrev pub asks_idle : LinePlace → Bool
asks_idle (standing.Rounds rule left place) = minds_idle rule && is_before place
asks_idle _ = false

-- whether the count that a line waits for is reached
abbrev pub has_reached : LinePlace → Counts → Bool
has_reached (standing.Rounds rule left place) counts = is_reached rule counts
has_reached _ counts = false

-- whether a line is one of mixed rounds
abbrev pub is_mixed : LinePlace → Bool
is_mixed (standing.Mixed left place draws) = true
is_mixed _ = false

-- whether a line ends early
abbrev pub is_over : LinePlace → Counts → Bool
is_over standing counts = has_reached standing counts || (asks_idle standing && counts.idle)

-- an alive packet of a muted node is lost in place of being delivered
abbrev pub event_when_muted : ℕ → Counts → Event → Event
event_when_muted node counts (event.Deliver bus k) =
    if counts.alive && (counts.sender == node) then event.Lose bus k else event.Deliver bus k
event_when_muted node counts event = event

-- an alive packet in a mixed round is delivered in place of being lost
abbrev pub event_when_spared : Counts → Event → Event
event_when_spared counts (event.Lose bus k) = if counts.alive then event.Deliver bus k else event.Lose bus k
event_when_spared counts event = event

-- what comes of an event where the packet that it concerns is an alive one, or isn't
abbrev pub event_by_counts : LinePlace → Counts → Event → Event
event_by_counts (standing.Rounds (rule.Mute node) left place) counts event = event_when_muted node counts event
event_by_counts (standing.Mixed left place draws) counts event = event_when_spared counts event
event_by_counts _ counts event = event

abbrev pub decided_move : LinePlace → Counts → Move → Move
decided_move standing counts move = record move { event = event_by_counts standing counts move.event }

-- the next event of a line, and where the line stands then; none where it has ended
abbrev pub next_event : Sizes → LinePlace → Counts → Option Move
next_event sizes standing counts =
    if is_over standing counts
    then None
    else option_map (decided_move standing counts) (proposed sizes counts.x counts.y standing)

-- where a line stands after its next event
abbrev pub stands_after : Option Move → LinePlace
stands_after (Some move) = move.standing
stands_after None = standing.Ended

abbrev pub event_of : Option Move → Option Event
event_of move = option_map (λ m. m.event) move

-- how many packets a bus holds, where the buses hold x and y packets
abbrev pub held : ℕ → ℕ → BusName → ℕ
held x y bus.X = x
held x y bus.Y = y

-- the packet at a position of a bus
abbrev pub on_bus : ℕ → ℕ → BusName → ℕ → Option (BusName × ℕ)
on_bus x y bus k = if nat_lt k (held x y bus) then Some (bus, k) else None

-- the packet that an event concerns
abbrev pub packet_of : ℕ → ℕ → Event → Option (BusName × ℕ)
packet_of x y (event.Deliver bus k) = on_bus x y bus k
packet_of x y (event.Lose bus k) = on_bus x y bus k
packet_of x y (event.Repeat bus k) = on_bus x y bus k
packet_of x y _ = None

abbrev pub packet_of_move : ℕ → ℕ → Option Move → Option (BusName × ℕ)
packet_of_move x y (Some move) = packet_of x y move.event
packet_of_move x y None = None

-- the packet that the next event of a line concerns, where the line goes on
abbrev pub packet_aimed_at : Sizes → ℕ → ℕ → LinePlace → Option (BusName × ℕ)
packet_aimed_at sizes x y standing = packet_of_move x y (proposed sizes x y standing)

-- the bus whose packets a drain delivers next, whatever is counted, and how many of them are left
abbrev pub bus_to_drain : LinePlace → Option (BusName × ℕ)
bus_to_drain (standing.Rounds rule.Drain left (place.Delivers bus packets)) = Some (bus, packets)
bus_to_drain _ = None

-- how many rounds are left of a drain that stands between two rounds
abbrev pub rounds_to_drain : LinePlace → Option ℕ
rounds_to_drain (standing.Rounds rule.Drain left place.Before) = Some left
rounds_to_drain _ = None

-- where a line stands with so many packets left that its round delivers
abbrev pub with_packets_left : ℕ → LinePlace → LinePlace
with_packets_left packets (standing.Rounds rule left (place.Delivers bus before)) =
    standing.Rounds rule left (place.Delivers bus packets)
with_packets_left packets standing = standing
