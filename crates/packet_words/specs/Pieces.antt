-- Messages in pieces of ten words.
use Rattle.std.specs.Prelude.{ℕ, suc, ◌-◌, ◌*◌, ◌/◌, ℤ, nat_le, nat_lt, List, [], ◌++◌, length, take, drop, Option}
use Rattle.std.specs.Prelude.{Some, None, if◌then◌else◌}
use Rattle.packet_words.specs.declared.piece.Piece.{Piece}

-- how many pieces a message has: one for ten words, and one for what is left
abbrev pub pieces : List ℤ → ℕ
pieces words = suc ((length words - 1) / 10)

-- the piece at the front of what is left of a message: its first ten words, the last piece where no more are left
abbrev pub first_piece : List ℤ → Piece
first_piece rest = record { last = nat_le (length rest) 10; words = take 10 rest }

-- the piece k of a message, counted from 0; none past the last
abbrev pub piece_at : ℕ → List ℤ → Option Piece
piece_at k words = if nat_lt (10 * k) (length words) then Some (first_piece (drop (10 * k) words)) else None

-- the words that came since the last last piece, after one more came
abbrev pub words_with_piece : Piece → List ℤ → List ℤ
words_with_piece piece part = if piece.last then [] else part ++ piece.words

-- the message that is whole with this piece, where it is the last
abbrev pub message_with_piece : Piece → List ℤ → Option (List ℤ)
message_with_piece piece part = if piece.last then Some (part ++ piece.words) else None
