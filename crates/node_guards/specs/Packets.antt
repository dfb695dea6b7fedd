-- Packets that the guards name.
use Rattle.std.specs.Prelude.{ℕ, ℤ, pos, true, List, [], ◌∷◌, replicate}
use Rattle.packet_words.specs.declared.packet.Packet.{Packet}
use Rattle.packet_words.specs.declared.packet.PacketKind.{PacketKind}
use Rattle.packet_words.specs.declared.packet.PacketKind.TheVariants as kind

-- a packet between nodes that were never reloaded
abbrev pub packet_of : ℕ → ℕ → PacketKind → Packet
packet_of sender receiver k =
    record { sender = sender; receiver = receiver; incarnation = record { sender = 0; receiver = 0 }; kind = k }

abbrev pub alive : ℕ → ℕ → Packet
alive sender receiver = packet_of sender receiver kind.Alive

-- the one piece of a request of seven words, from the node of the terminals to processor 1
abbrev pub request_piece : Packet
request_piece = packet_of 16 1 (kind.Piece 1
    (record { last = true; words = pos 1 ∷ pos 1 ∷ pos 0 ∷ pos 0 ∷ pos 1 ∷ pos 1 ∷ pos 5 ∷ [] }))

-- a message of so many words
abbrev pub message_of : ℕ → List ℤ
message_of count = replicate count (pos 7)
