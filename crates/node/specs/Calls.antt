-- What a call makes of a node and of wires, and what it tells. Our own rule, as what happens at nodes is.
use Rattle.std.specs.Prelude.{ℕ, slice_get, slice_set, Option, Some, None}
use Rattle.std.specs.Option.{option_and_then}
use Rattle.schedule.specs.declared.bus_name.BusName.{BusName}
use Rattle.schedule.specs.declared.bus_name.BusName.TheVariants as bus
use Rattle.packet_words.specs.declared.packet.Packet.{Packet}
use Rattle.packet_words.specs.declared.packet.PacketKind.{PacketKind}
use Rattle.packet_words.specs.declared.packet.PacketKind.TheVariants as kind
use Rattle.link_control.specs.Ends.{End, after_packet, sent_by_packet}
use Rattle.alive_regroup.specs.Watching.{Watching}
use Rattle.event_parts.specs.packet_wires.specs.Nodes.{Node}
use Rattle.event_parts.specs.packet_wires.specs.Wires.{Midst, any_goes_over, end_changed, goes_over}

-- Nodes

abbrev pub with_end_if : ℕ → (End → End) → Node → Option End → Node
with_end_if y change node None = node
with_end_if y change node (Some e) = record node { ends = slice_set node.ends y (change e) }

-- the node with its end with another one changed, where it has one
abbrev pub with_end_changed : ℕ → (End → End) → Node → Node
with_end_changed y change node = with_end_if y change node (slice_get node.ends y)

-- what its end with another one tells, where it has one
abbrev pub told_at_end : {A : Type 0} → ℕ → (End → Option A) → Node → Option A
told_at_end y tells node = option_and_then tells (slice_get node.ends y)

abbrev pub with_watch_changed : (Watching → Watching) → Node → Node
with_watch_changed change node = record node { watch = change node.watch }

-- Wires

-- a packet goes over both buses
abbrev pub both_go : Option Packet → Midst → Midst
both_go None midst = midst
both_go (Some packet) midst = goes_over bus.Y packet (goes_over bus.X packet midst)

-- a packet comes at an end, whose answer takes this bus
abbrev pub arrive_by : BusName → Packet → Node → End → Midst → Midst
arrive_by name packet node e midst =
    any_goes_over name (sent_by_packet packet e)
    (end_changed packet.receiver packet.sender node (after_packet packet e) midst)

abbrev pub address_if_alive : Packet → PacketKind → Option (ℕ × ℕ)
address_if_alive packet kind.Alive = Some (packet.receiver, packet.sender)
address_if_alive packet (kind.Piece number piece) = None
address_if_alive packet (kind.Acknowledgement number) = None

-- the receiver and the sender of an I'm-alive packet, where one was looked for
abbrev pub alive_address : Option Packet → Option (ℕ × ℕ)
alive_address found = option_and_then (λ packet. address_if_alive packet packet.kind) found
