-- The 16 words of a packet. That packets have 16 words is Bartlett's; the places of the words are this project's own.
use Rattle.std.specs.Prelude.{ℕ, ◌+◌, ◌-◌, ◌*◌, ◌/◌, ◌%◌, ◌==◌, ◌&&◌, ◌||◌, nat_le, nat_lt, ℤ, pos, Bool, true, List}
use Rattle.std.specs.Prelude.{[], ◌∷◌, ◌++◌, length, replicate, if◌then◌else◌}
use Rattle.std.specs.Int.{w16, cast_signed}
use Rattle.gd_words.specs.declared.limits.TheConstants.{MOST_RELOADS, TERMINAL_NODE}
use Rattle.packet_words.specs.declared.packet.Packet.{Packet}
use Rattle.packet_words.specs.declared.packet.PacketKind.{PacketKind}
use Rattle.packet_words.specs.declared.packet.PacketKind.TheVariants as kind
use Rattle.packet_words.specs.declared.piece.Piece.{Piece}

-- a piece has one to ten words, and ten unless it is the last
abbrev pub is_piece : Piece → Bool
is_piece piece =
    nat_lt 0 (length piece.words) && nat_le (length piece.words) 10 && (piece.last || (length piece.words == 10))

-- pieces and their acknowledgements are numbered from 1
abbrev pub is_kind : PacketKind → Bool
is_kind kind.Alive = true
is_kind (kind.Piece number piece) = nat_lt 0 number && is_piece piece
is_kind (kind.Acknowledgement number) = nat_lt 0 number

-- what may go over a bus: nodes and incarnations within their limits, and a kind within its ranges
abbrev pub is_packet : Packet → Bool
is_packet packet =
    nat_le packet.sender TERMINAL_NODE && nat_le packet.receiver TERMINAL_NODE
    && nat_le packet.incarnation.sender MOST_RELOADS
    && nat_le packet.incarnation.receiver MOST_RELOADS
    && is_kind packet.kind

-- the word of the pattern of 16 bits that a number has
abbrev pub pattern : ℕ → ℤ
pattern n = cast_signed w16 n

abbrev pub kind_number : PacketKind → ℕ
kind_number kind.Alive = 0
kind_number (kind.Piece number piece) = 1
kind_number (kind.Acknowledgement number) = 2

abbrev pub number_in : PacketKind → ℕ
number_in kind.Alive = 0
number_in (kind.Piece number piece) = number
number_in (kind.Acknowledgement number) = number

-- how many words a piece has, and 16 more for a last one
abbrev pub shape_of : PacketKind → ℕ
shape_of kind.Alive = 0
shape_of (kind.Piece number piece) = length piece.words + (if piece.last then 16 else 0)
shape_of (kind.Acknowledgement number) = 0

-- words in ten places, zeros after them
abbrev pub filled : List ℤ → List ℤ
filled words = words ++ replicate (10 - length words) (pos 0)

abbrev pub content_of : PacketKind → List ℤ
content_of kind.Alive = filled []
content_of (kind.Piece number piece) = filled piece.words
content_of (kind.Acknowledgement number) = filled []

-- the words of a packet: sender and receiver; the kind; the incarnations; the number's high half and its low one; the
-- piece's shape; ten words of content
abbrev pub words_of : Packet → List ℤ
words_of packet =
    pattern (packet.sender * 32 + packet.receiver)
    ∷ pattern (kind_number packet.kind)
    ∷ pattern (packet.incarnation.sender * 128 + packet.incarnation.receiver)
    ∷ pattern (number_in packet.kind / 65536)
    ∷ pattern (number_in packet.kind % 65536)
    ∷ pattern (shape_of packet.kind)
    ∷ content_of packet.kind
