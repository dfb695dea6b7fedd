-- What lies under the world of copies in the machine over packets: both buses and the nodes; and what a node sends,
-- takes in and does at its ticks. Two buses, packets that are acknowledged and sent again over the other bus, and
-- I'm-alive packets over both are Bartlett's; numbers and orders are this project's own.
use Rattle.std.specs.Prelude.{ℕ, ◌==◌, Bool, ℤ, List, [], ◌∷◌, ◌++◌, map, slice_get, Option, Some, None}
use Rattle.std.specs.Prelude.{if◌then◌else◌}
use Rattle.std.specs.List.{filter, remove}
use Rattle.schedule.specs.Buses.{is_bus}
use Rattle.schedule.specs.declared.bus_name.BusName.{BusName}
use Rattle.schedule.specs.declared.bus_name.BusName.TheVariants as bus
use Rattle.packet_words.specs.declared.packet.Packet.{Packet}
use Rattle.packet_words.specs.declared.packet.PacketKind.{PacketKind}
use Rattle.packet_words.specs.declared.packet.PacketKind.TheVariants as kind
use Rattle.bus_model.specs.Packets.{sent}
use Rattle.link_control.specs.declared.channel.Resent.{Resent}
use Rattle.link_control.specs.Ends.{End, packet_of, after_push, sent_by_push, after_packet, sent_by_packet, after_tick}
use Rattle.link_control.specs.Ends.{sent_by_tick, after_down}
use Rattle.alive_regroup.specs.declared.set.ProcessorSet.{ProcessorSet}
use Rattle.alive_regroup.specs.Watching as watching
use Rattle.alive_regroup.specs.Watching.{Watching, changed_at, told_by_tick}
use Rattle.message_layout.specs.world_semantics.specs.World.{is_running, terminal_node}
use Rattle.message_layout.specs.Messages.{NodeMessage, Reporting, Declaring}
use Rattle.message_layout.specs.Layout.{words_of}
use Rattle.packet_wires.specs.Nodes.{Node, nodes_at_boot, all_nodes, others, with_end, with_watch, node_after_reload}
use Rattle.packet_wires.specs.Parcels.{Parcel}

-- the packets on bus X and those on bus Y, each in their order; and the nodes 0 to 16. What a stopped node has is not
-- looked at, until it is loaded again
pub record Wires : Type 0 where
  pub x : List Packet
  pub y : List Packet
  pub nodes : List Node

-- nothing is on the buses or in the channels
abbrev pub wires_at_boot : ℕ → Wires
wires_at_boot processors = record { x = []; y = []; nodes = nodes_at_boot processors }

-- a packet that is sent, and the bus over which it goes
pub record Outgoing : Type 0 where
  pub bus : BusName
  pub packet : Packet

-- what an event sees of the wires: the nodes, and what it has sent so far, in its order. It sees no bus: what it sent
-- is put on the buses when it is over
pub record Midst : Type 0 where
  pub nodes : List Node
  pub out : List Outgoing

-- an event begins with the nodes as they are, and nothing is sent
abbrev pub nothing_sent : List Node → Midst
nothing_sent nodes = record { nodes = nodes; out = [] }

-- Buses

abbrev pub on_bus : BusName → Wires → List Packet
on_bus bus.X wires = wires.x
on_bus bus.Y wires = wires.y

abbrev pub with_bus : BusName → List Packet → Wires → Wires
with_bus bus.X packets wires = record wires { x = packets }
with_bus bus.Y packets wires = record wires { y = packets }

-- the bus without the packet at a position
abbrev pub without_packet : BusName → ℕ → Wires → Wires
without_packet name k wires = with_bus name (remove (on_bus name wires) k) wires

-- of what goes out, the packets that go over this bus, in their order
abbrev pub packets_over : BusName → List Outgoing → List Packet
packets_over name out = map (λ one. one.packet) (filter (λ one. is_bus name one.bus) out)

-- packets are put at the end of a bus one after the other: each where the bus then has room, and it is lost otherwise
abbrev pub all_put : List Packet → List Packet → List Packet
all_put [] on = on
all_put (packet ∷ packets) on = all_put packets (sent packet on)

-- the wires after an event: the nodes as it left them, and on each bus what it sent over it, behind what was there
abbrev pub with_sent : Midst → Wires → Wires
with_sent midst wires = record {
  x = all_put (packets_over bus.X midst.out) wires.x;
  y = all_put (packets_over bus.Y midst.out) wires.y;
  nodes = midst.nodes;
}

-- Packets that are sent

-- a packet is sent over a bus, after all that was sent before
abbrev pub goes_over : BusName → Packet → Midst → Midst
goes_over name packet midst = record midst { out = midst.out ++ record { bus = name; packet = packet } ∷ [] }

abbrev pub any_goes_over : BusName → Option Packet → Midst → Midst
any_goes_over name None midst = midst
any_goes_over name (Some packet) midst = goes_over name packet midst

-- what a tick sends again takes the bus that is its turn
abbrev pub goes_again : Option Resent → Midst → Midst
goes_again None midst = midst
goes_again (Some resent) midst = goes_over resent.bus resent.packet midst

-- Nodes and ends that are there

abbrev pub at_node : (Node → Midst → Midst) → Option Node → Midst → Midst
at_node does None midst = midst
at_node does (Some node) midst = does node midst

abbrev pub at_end_of : (End → Midst → Midst) → Option End → Midst → Midst
at_end_of does None midst = midst
at_end_of does (Some e) midst = does e midst

-- what is done at the end that x has with y
abbrev pub at_end : ℕ → ℕ → (Node → End → Midst → Midst) → Midst → Midst
at_end x y does midst = at_node (λ node. at_end_of (does node) (slice_get node.ends y)) (slice_get midst.nodes x) midst

abbrev pub end_changed : ℕ → ℕ → Node → End → Midst → Midst
end_changed x y node e midst = record midst { nodes = with_end x y node e midst.nodes }

abbrev pub watch_changed : ℕ → (Watching → Watching) → Node → Midst → Midst
watch_changed x change node midst = record midst { nodes = with_watch x node (change node.watch) midst.nodes }

-- the node x learns something of the processors
abbrev pub learns : ℕ → (Watching → Watching) → Midst → Midst
learns x change midst = at_node (watch_changed x change) (slice_get midst.nodes x) midst

-- the same is done for each of these nodes in turn
abbrev pub for_each : (ℕ → Midst → Midst) → List ℕ → Midst → Midst
for_each does [] midst = midst
for_each does (y ∷ ys) midst = for_each does ys (does y midst)

-- Messages that are sent

-- a message is pushed at an end; what that sends goes over bus X
abbrev pub push_at : ℕ → ℕ → List ℤ → Node → End → Midst → Midst
push_at x y words node e midst =
    any_goes_over bus.X (sent_by_push words e) (end_changed x y node (after_push words e) midst)

-- the node x sends y a message
abbrev pub sends : ℕ → ℕ → NodeMessage → Midst → Midst
sends x y message midst = at_end x y (push_at x y (words_of message)) midst

-- the node x sends each of these nodes a message
abbrev pub sends_all : ℕ → NodeMessage → List ℕ → Midst → Midst
sends_all x message ys midst = for_each (λ y. sends x y message) ys midst

-- a parcel is sent by its sender, unless that has stopped
abbrev pub posted : List Bool → Parcel → Midst → Midst
posted stopped parcel midst =
    if is_running stopped parcel.sender then sends parcel.sender parcel.receiver parcel.content midst else midst

-- parcels are sent in their order
abbrev pub all_posted : List Bool → List Parcel → Midst → Midst
all_posted stopped [] midst = midst
all_posted stopped (parcel ∷ parcels) midst = all_posted stopped parcels (posted stopped parcel midst)

-- Packets that come

-- the bus over which the answer to a packet goes: the acknowledgement of a piece takes that on which the piece came,
-- and the piece that an acknowledgement lets go takes bus X
abbrev pub bus_of_answer : BusName → PacketKind → BusName
bus_of_answer name kind.Alive = bus.X
bus_of_answer name (kind.Piece number piece) = name
bus_of_answer name (kind.Acknowledgement number) = bus.X

-- an I'm-alive packet was heard
abbrev pub heard_of : ℕ → PacketKind → Watching → Watching
heard_of sender kind.Alive watch = changed_at sender watching.neighbour_after_alive watch
heard_of sender (kind.Piece number piece) watch = watch
heard_of sender (kind.Acknowledgement number) watch = watch

abbrev pub arrive_at : BusName → Packet → Node → End → Midst → Midst
arrive_at name packet node e midst =
    any_goes_over (bus_of_answer name packet.kind) (sent_by_packet packet e)
    (end_changed packet.receiver packet.sender node (after_packet packet e) midst)

-- the receiver of a packet takes it in: first its end and the answer, then what it hears
abbrev pub midst_after_arrival : BusName → Packet → Midst → Midst
midst_after_arrival name packet midst =
    learns packet.receiver (heard_of packet.sender packet.kind)
    (at_end packet.receiver packet.sender (arrive_at name packet) midst)

-- Ticks

-- an I'm-alive packet goes over bus X and then one over bus Y, to a node that isn't marked down
abbrev pub alive_at : Node → End → Midst → Midst
alive_at node e midst =
    if e.down then midst else goes_over bus.Y (packet_of e kind.Alive) (goes_over bus.X (packet_of e kind.Alive) midst)

-- a processor tells the others that it is alive, in rising order; the node of the terminals tells none
abbrev pub tells_alive : ℕ → ℕ → Midst → Midst
tells_alive processors x midst =
    if x == terminal_node then midst else for_each (λ y. at_end x y alive_at) (others processors x) midst

-- a processor reports a silent set to the others, where a check gave another one than the last
abbrev pub reports : ℕ → ℕ → Option ProcessorSet → Midst → Midst
reports processors x None midst = midst
reports processors x (Some silent) midst = sends_all x (Reporting x silent) (others processors x) midst

abbrev pub check_at : ℕ → ℕ → Node → Midst → Midst
check_at processors x node midst =
    reports processors x (told_by_tick node.watch) (watch_changed x watching.after_tick node midst)

-- a node counts its ticks; a processor checks at every second one, and reports
abbrev pub checks : ℕ → ℕ → Midst → Midst
checks processors x midst = at_node (check_at processors x) (slice_get midst.nodes x) midst

-- an end ticks, and sends again what was outstanding at its last tick
abbrev pub tick_at : ℕ → ℕ → Node → End → Midst → Midst
tick_at x y node e midst = goes_again (sent_by_tick e) (end_changed x y node (after_tick e) midst)

abbrev pub resends : ℕ → Midst → Midst
resends x midst = for_each (λ y. at_end x y (tick_at x y)) all_nodes midst

-- what a tick of the node x sends, in this order: that it is alive, what its check found, and what is outstanding
abbrev pub midst_after_tick : ℕ → ℕ → Midst → Midst
midst_after_tick processors x midst = resends x (checks processors x (tells_alive processors x midst))

-- Marks

-- an end is thrown away, with all that it holds
abbrev pub down_at : ℕ → ℕ → Node → End → Midst → Midst
down_at x y node e midst = end_changed x y node (after_down e) midst

-- the node x cuts the processor y off: it throws away its channels with it, and expects no more to hear of it
abbrev pub cut_off : ℕ → ℕ → Midst → Midst
cut_off x y midst = learns x (changed_at y watching.neighbour_after_down) (at_end x y (down_at x y) midst)

-- the node x tells all others that a processor is down, first the processors and then the node of the terminals. It
-- sends the one that is down nothing, as it has cut that one off
abbrev pub declares : ℕ → ℕ → ℕ → Midst → Midst
declares processors x processor midst =
    sends_all x (Declaring processor) (others processors x ++ terminal_node ∷ []) midst

-- Reloads

-- a processor of a site with so many is loaded again: all channels of it and with it are new, at both ends, and it is
-- expected to be heard of. Nothing is sent, and what is on the buses stays there
abbrev pub loaded_again : ℕ → ℕ → Midst → Midst
loaded_again processors x midst = record midst { nodes = map (node_after_reload processors x) midst.nodes }
