-- An end of a channel, from node 1 to node 2, and what comes to it.
use Rattle.std.specs.Prelude.{ℕ, true, false}
use Rattle.packet_words.specs.declared.packet.Packet.{Packet}
use Rattle.packet_words.specs.declared.packet.PacketKind.TheVariants as kind
use Rattle.link_control.specs.Ends.{End, new_end, after_push}
use Rattle.node_guards.specs.Packets.{packet_of, message_of}

-- the end over which nothing has gone
abbrev pub fresh : End
fresh = new_end 1 2 (record { sender = 0; receiver = 0 })

-- the end to which a message of two pieces was pushed
abbrev pub begun : End
begun = after_push (message_of 11) fresh

-- an acknowledgement of the other node
abbrev pub acknowledgement : ℕ → Packet
acknowledgement number = packet_of 2 1 (kind.Acknowledgement number)

-- a piece of the other node: ten words of a message that goes on, or its last one
abbrev pub full_piece : ℕ → Packet
full_piece number = packet_of 2 1 (kind.Piece number (record { last = false; words = message_of 10 }))

abbrev pub last_piece : ℕ → Packet
last_piece number = packet_of 2 1 (kind.Piece number (record { last = true; words = message_of 1 }))
