-- Nodes and wires of a site with three processors that the guards name.
use Rattle.std.specs.Prelude.{◌≡◌, ℕ, true, List}
use Rattle.std.specs.List.{list_all}
use Rattle.packet_words.specs.declared.packet.Packet.{Packet}
use Rattle.packet_words.specs.declared.packet.PacketKind.TheVariants as kind
use Rattle.link_control.specs.Ends.{after_packet, after_push, is_empty}
use Rattle.packet_wires.specs.Nodes.{Node, node_at_boot, nodes_at_boot}
use Rattle.packet_wires.specs.Wires.{Wires}
use Rattle.node.specs.Calls.{with_end_changed}
use Rattle.node_guards.specs.Packets.{packet_of, message_of}

-- no end of the node holds anything, outstanding or queued
abbrev pub IsQuiet : Node → Type 0
IsQuiet node = list_all is_empty node.ends ≡ true

-- processor 0, to which nothing has happened
abbrev pub first_node : Node
first_node = node_at_boot 3 0

-- it has pushed a message of one word for the node of the terminals
abbrev pub busy_node : Node
busy_node = with_end_changed 16 (after_push (message_of 1)) first_node

-- that message was acknowledged
abbrev pub done_node : Node
done_node = with_end_changed 16 (after_packet (packet_of 16 0 (kind.Acknowledgement 1))) busy_node

-- these packets are on the buses, and nothing has happened at the nodes
abbrev pub wires_with : List Packet → List Packet → Wires
wires_with x y = record { x = x; y = y; nodes = nodes_at_boot 3 }

-- the one piece of a message of one word, and its acknowledgement
abbrev pub only_piece : ℕ → ℕ → Packet
only_piece sender receiver = packet_of sender receiver (kind.Piece 1 (record { last = true; words = message_of 1 }))

abbrev pub receipt : ℕ → ℕ → Packet
receipt sender receiver = packet_of sender receiver (kind.Acknowledgement 1)
