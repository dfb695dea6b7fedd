-- One direction of a channel, from a node to a node: both ends together, and what went between them.
use Rattle.std.specs.Prelude.{◌≡◌, ◌≤◌, ◌<◌, ℕ, ◌+◌, ◌*◌, ℤ, List, [], ◌∷◌, ◌++◌, length, take, Some}
use Rattle.std.specs.Option.{option_to_list}
use Rattle.packet_words.specs.declared.piece.Piece.{Piece}
use Rattle.packet_words.specs.Pieces.{pieces, piece_at}
use Rattle.link_control.specs.Ends.{Sending, Receiving, End, idle_after, nothing_in_part, after_push_of}
use Rattle.link_control.specs.Ends.{after_acknowledgement, after_tick_of, kept, message_of_piece}

-- the messages ever pushed at the sender's end, the oldest first; that end; the receiver's end; and the messages that
-- it handed over
pub record Way : Type 0 where
  pub pushes : List (List ℤ)
  pub sender : Sending
  pub receiver : Receiving
  pub out : List (List ℤ)

abbrev pub quiet_way : Way
quiet_way = record { pushes = []; sender = idle_after 0; receiver = nothing_in_part 0; out = [] }

-- What happens to a way

-- a message is pushed
abbrev pub way_after_push : List ℤ → Way → Way
way_after_push message w = record w { pushes = w.pushes ++ message ∷ []; sender = after_push_of message w.sender }

-- a piece comes
abbrev pub way_after_piece : ℕ → Piece → Way → Way
way_after_piece number piece w = record w {
  receiver = kept number piece w.receiver;
  out = w.out ++ option_to_list (message_of_piece number piece w.receiver);
}

-- an acknowledgement comes
abbrev pub way_after_acknowledgement : ℕ → Way → Way
way_after_acknowledgement number w = record w { sender = after_acknowledgement number w.sender }

-- the sender's node ticks
abbrev pub way_after_tick : Way → Way
way_after_tick w = record w { sender = after_tick_of w.sender }

-- What both ends keep

-- no message is empty
abbrev pub Filled : List (List ℤ) → Type 0
Filled [] = Unit {0}
Filled (message ∷ rest) = (0 < length message) × Filled rest

-- how many pieces messages have together
abbrev pub total : List (List ℤ) → ℕ
total [] = 0
total (message ∷ rest) = pieces message + total rest

-- the first of the messages has a piece k; where there is none, no piece of it was begun
abbrev pub IsWithin : ℕ → List (List ℤ) → Type 0
IsWithin k [] = k ≡ 0
IsWithin k (message ∷ rest) = 10 * k < length message

abbrev pub first_of : List (List ℤ) → List ℤ
first_of [] = []
first_of (message ∷ rest) = message

-- how many pieces are outstanding: one exactly where a message isn't acknowledged whole
abbrev pub opened : List (List ℤ) → ℕ
opened [] = 0
opened (message ∷ rest) = 1

-- at the sender's end: the pushed messages are those acknowledged whole, then the queue. So many pieces are
-- acknowledged, and numbered are these and the outstanding one
pub record AtSender (pushes : List (List ℤ)) (acknowledged : ℕ) (s : Sending) : Type 0 where
  pub done : List (List ℤ)
  pub sent : pushes ≡ done ++ s.queue
  pub place : IsWithin s.place s.queue
  pub count : acknowledged ≡ total done + s.place
  pub numbered : s.numbered ≡ acknowledged + opened s.queue

-- at the receiver's end: the pushed messages are those handed over, then the rest. Of the first of the rest some pieces
-- are kept, and so are its words in them
pub record AtReceiver (pushes out : List (List ℤ)) (r : Receiving) : Type 0 where
  pub rest : List (List ℤ)
  pub come : pushes ≡ out ++ rest
  pub some : ℕ
  pub in_part : IsWithin some rest
  pub count : r.kept ≡ total out + some
  pub part : r.part ≡ take (10 * some) (first_of rest)

-- both ends of a way are joint: what is acknowledged is kept, and what is kept was numbered
pub record IsJoint (w : Way) : Type 0 where
  pub filled : Filled w.pushes
  pub acknowledged : ℕ
  pub sending : AtSender w.pushes acknowledged w.sender
  pub receiving : AtReceiver w.pushes w.out w.receiver
  pub acknowledged_is_kept : acknowledged ≤ w.receiver.kept
  pub kept_is_numbered : w.receiver.kept ≤ w.sender.numbered

-- What goes on the buses

-- a piece that is cut from messages: it is a piece of one of them, and its number is its place among the pieces of all
pub record IsCut (messages : List (List ℤ)) (number : ℕ) (piece : Piece) : Type 0 where
  pub before : List (List ℤ)
  pub message : List ℤ
  pub after : List (List ℤ)
  pub split : messages ≡ before ++ message ∷ after
  pub k : ℕ
  pub cut : piece_at k message ≡ Some piece
  pub count : number ≡ total before + k + 1

-- a piece of a way is cut from what was pushed, and was numbered
abbrev pub IsPieceOf : Way → ℕ → Piece → Type 0
IsPieceOf w number piece = IsCut w.pushes number piece × (number ≤ w.sender.numbered)

-- an acknowledgement of a way is of a piece that was kept
abbrev pub IsReceiptOf : Way → ℕ → Type 0
IsReceiptOf w number = (0 < number) × (number ≤ w.receiver.kept)

-- The outstanding piece

-- the piece of this number is outstanding
abbrev pub IsOutstanding : ℕ → Sending → Type 0
IsOutstanding n s = (s.numbered ≡ n) × (opened s.queue ≡ 1)

-- the piece of this number was numbered, and is outstanding no more
abbrev pub IsEnded : ℕ → Sending → Type 0
IsEnded n s = n + opened s.queue ≤ s.numbered

-- an end has numbered at most one piece more than before, and kept at most one more
abbrev pub IsOneOn : End → End → Type 0
IsOneOn e next = (next.sending.numbered ≤ e.sending.numbered + 1) × (next.receiving.kept ≤ e.receiving.kept + 1)
