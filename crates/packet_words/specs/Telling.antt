-- The packet that words tell. Where they are no packet's words, they tell one with other words.
use Rattle.std.specs.Prelude.{ℕ, zero, suc, ◌/◌, ◌%◌, ◌+◌, ◌*◌, nat_le, ℤ, List, take, drop, slice_get}
use Rattle.std.specs.Option.{option_map, unwrap_or}
use Rattle.std.specs.Int.{w16, cast_unsigned}
use Rattle.packet_words.specs.declared.packet.Packet.{Packet}
use Rattle.packet_words.specs.declared.packet.PacketKind.{PacketKind}
use Rattle.packet_words.specs.declared.packet.PacketKind.TheVariants as kind
use Rattle.packet_words.specs.declared.piece.Piece.{Piece}

-- the number of the pattern at a place, 0 where none is
abbrev pub number_at : ℕ → List ℤ → ℕ
number_at place words = unwrap_or (option_map (cast_unsigned w16) (slice_get words place)) 0

abbrev pub piece_told : ℕ → List ℤ → Piece
piece_told shape content = record { last = nat_le 16 shape; words = take 10 (take (shape % 16) content) }

abbrev pub kind_told : ℕ → ℕ → ℕ → List ℤ → PacketKind
kind_told zero number shape content = kind.Alive
kind_told (suc zero) number shape content = kind.Piece number (piece_told shape content)
kind_told (suc (suc more)) number shape content = kind.Acknowledgement number

abbrev pub told : List ℤ → Packet
told words = record {
  sender = number_at 0 words / 32 % 32;
  receiver = number_at 0 words % 32;
  incarnation = record { sender = number_at 2 words / 128 % 128; receiver = number_at 2 words % 128 };
  kind = kind_told (number_at 1 words) (number_at 3 words * 65536 + number_at 4 words) (number_at 5 words)
      (drop 6 words);
}
