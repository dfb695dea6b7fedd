-- One end of a channel: what it has, and what each call makes of it. That messages go in numbered packets, acknowledged
-- and sent again over two buses, is Bartlett's; one outstanding piece at a time, and when it is sent again, are our
-- own.
use Rattle.std.specs.Prelude.{◌≡◌, ℕ, ◌+◌, ◌*◌, ◌<◌, ◌==◌, ◌&&◌, ◌||◌, not, nat_lt, nat_le, ℤ, Bool, true, false, List}
use Rattle.std.specs.Prelude.{[]}
use Rattle.std.specs.Prelude.{◌∷◌, ◌++◌, length, Option, Some, None, if◌then◌else◌}
use Rattle.std.specs.Option.{option_map}
use Rattle.packet_words.specs.gd_words.specs.Ranges.{HasNext}
use Rattle.packet_words.specs.gd_words.specs.declared.limits.TheConstants.{MOST_RELOADS}
use Rattle.schedule.specs.declared.bus_name.BusName.{BusName}
use Rattle.schedule.specs.declared.bus_name.BusName.TheVariants as bus
use Rattle.packet_words.specs.declared.piece.Piece.{Piece}
use Rattle.packet_words.specs.declared.packet.Packet.{Packet}
use Rattle.packet_words.specs.declared.packet.Incarnation.{Incarnation}
use Rattle.packet_words.specs.declared.packet.PacketKind.{PacketKind}
use Rattle.packet_words.specs.declared.packet.PacketKind.TheVariants as kind
use Rattle.schedule.specs.Buses.{other_bus}
use Rattle.packet_words.specs.Pieces.{piece_at, words_with_piece, message_with_piece}
use Rattle.link_control.specs.declared.channel.Resent.{Resent}

-- the sender's end of one direction: the messages that aren't acknowledged whole, the oldest first; which piece of the
-- first of them is outstanding, counted from 0; how many pieces were numbered so far, the outstanding one last; whether
-- that one was outstanding at the last tick; and the bus over which it is sent again next. A piece is outstanding
-- exactly where there is such a message
pub record Sending : Type 0 where
  pub queue : List (List ℤ)
  pub place : ℕ
  pub numbered : ℕ
  pub waited : Bool
  pub resend_bus : BusName

-- the receiver's end of one direction: the number of the last piece kept, and the words of the message in part
pub record Receiving : Type 0 where
  pub kept : ℕ
  pub part : List ℤ

-- one node's end of the channel with another: the sender's end of the direction there, the receiver's end of the
-- direction here, and whether this node has marked the other down
pub record End : Type 0 where
  pub here : ℕ
  pub there : ℕ
  pub incarnation : Incarnation
  pub sending : Sending
  pub receiving : Receiving
  pub down : Bool

-- nothing is outstanding, after so many pieces
abbrev pub idle_after : ℕ → Sending
idle_after numbered = record { queue = []; place = 0; numbered = numbered; waited = false; resend_bus = bus.Y }

-- nothing is kept in part, after so many pieces
abbrev pub nothing_in_part : ℕ → Receiving
nothing_in_part kept = record { kept = kept; part = [] }

abbrev pub new_end : ℕ → ℕ → Incarnation → End
new_end here there incarnation = record {
  here = here;
  there = there;
  incarnation = incarnation;
  sending = idle_after 0;
  receiving = nothing_in_part 0;
  down = false;
}

-- The sender's end

-- the piece at this place of the first message is numbered and becomes outstanding
abbrev pub numbered_at : ℕ → List (List ℤ) → ℕ → Sending
numbered_at place queue numbered =
    record { queue = queue; place = place; numbered = numbered + 1; waited = false; resend_bus = bus.Y }

-- the first piece of the first message becomes outstanding, where there is a message
abbrev pub new_sending : List (List ℤ) → ℕ → Sending
new_sending [] numbered = idle_after numbered
new_sending (message ∷ rest) numbered = numbered_at 0 (message ∷ rest) numbered

abbrev pub is_none : List (List ℤ) → Bool
is_none [] = true
is_none (message ∷ rest) = false

abbrev pub is_idle : Sending → Bool
is_idle s = is_none s.queue

-- a message is pushed: it goes at once where nothing is outstanding, and else waits behind the others
abbrev pub after_push_of : List ℤ → Sending → Sending
after_push_of message s =
    if is_idle s then new_sending (message ∷ []) s.numbered else record s { queue = s.queue ++ message ∷ [] }

-- the next piece becomes outstanding: of the first message, or of the one behind it where no words are left
abbrev pub moved_on : List (List ℤ) → Sending → Sending
moved_on [] s = s
moved_on (message ∷ rest) s =
    if nat_lt (10 * (s.place + 1)) (length message) then numbered_at (s.place + 1) (message ∷ rest) s.numbered else
    new_sending rest s.numbered

-- whether an acknowledgement is that of the outstanding piece
abbrev pub is_ended_by : ℕ → Sending → Bool
is_ended_by number s = not (is_idle s) && (number == s.numbered)

-- an acknowledgement came
abbrev pub after_acknowledgement : ℕ → Sending → Sending
after_acknowledgement number s = if is_ended_by number s then moved_on s.queue s else s

-- whether a tick sends the outstanding piece again
abbrev pub is_sent_again : Sending → Bool
is_sent_again s = not (is_idle s) && s.waited

-- a tick: what was outstanding at the last one goes over its bus, and next over the other
abbrev pub after_tick_of : Sending → Sending
after_tick_of s = if is_idle s then s else if s.waited then record s { resend_bus = other_bus s.resend_bus } else
    record s { waited = true }

-- the outstanding piece
abbrev pub piece_of : List (List ℤ) → ℕ → Option Piece
piece_of [] place = None
piece_of (message ∷ rest) place = piece_at place message

-- The receiver's end

-- a piece is kept where its number follows the last kept one
abbrev pub is_next : ℕ → Receiving → Bool
is_next number r = number == r.kept + 1

-- a piece came
abbrev pub kept : ℕ → Piece → Receiving → Receiving
kept number piece r = if is_next number r then record { kept = r.kept + 1; part = words_with_piece piece r.part } else r

-- the message that is handed over as a piece comes: it is whole where the piece is kept and the last
abbrev pub message_of_piece : ℕ → Piece → Receiving → Option (List ℤ)
message_of_piece number piece r = if is_next number r then message_with_piece piece r.part else None

-- whether the piece of this number is kept, now or before
abbrev pub is_kept : ℕ → Receiving → Bool
is_kept number r = nat_le number r.kept

-- The calls

-- a packet of this end
abbrev pub packet_of : End → PacketKind → Packet
packet_of e kind = record { sender = e.here; receiver = e.there; incarnation = e.incarnation; kind = kind }

-- the packet of the outstanding piece
abbrev pub packet_outstanding : End → Option Packet
packet_outstanding e =
    option_map (λ piece. packet_of e (kind.Piece e.sending.numbered piece)) (piece_of e.sending.queue e.sending.place)

-- a message is pushed; to a node that is marked down it is thrown away
abbrev pub after_push : List ℤ → End → End
after_push message e = if e.down then e else record e { sending = after_push_of message e.sending }

-- what a push sends: the first piece, where nothing was outstanding
abbrev pub sent_by_push : List ℤ → End → Option Packet
sent_by_push message e =
    if e.down then None else if is_idle e.sending then packet_outstanding (after_push message e) else None

abbrev pub after_kind : PacketKind → End → End
after_kind kind.Alive e = e
after_kind (kind.Piece number piece) e = record e { receiving = kept number piece e.receiving }
after_kind (kind.Acknowledgement number) e = record e { sending = after_acknowledgement number e.sending }

-- a packet comes: a piece concerns the receiver's end, an acknowledgement the sender's; of a node that is marked down
-- it is dropped
abbrev pub after_packet : Packet → End → End
after_packet packet e = if e.down then e else after_kind packet.kind e

abbrev pub sent_by_kind : PacketKind → End → Option Packet
sent_by_kind kind.Alive e = None
sent_by_kind (kind.Piece number piece) e =
    if is_kept number (kept number piece e.receiving) then Some (packet_of e (kind.Acknowledgement number)) else None
sent_by_kind (kind.Acknowledgement number) e =
    if is_ended_by number e.sending then packet_outstanding (after_kind (kind.Acknowledgement number) e) else None

-- what a packet makes this end send: a piece that is kept its acknowledgement, an acknowledgement the next piece
abbrev pub sent_by_packet : Packet → End → Option Packet
sent_by_packet packet e = if e.down then None else sent_by_kind packet.kind e

abbrev pub handed_by_kind : PacketKind → End → Option (List ℤ)
handed_by_kind kind.Alive e = None
handed_by_kind (kind.Piece number piece) e = message_of_piece number piece e.receiving
handed_by_kind (kind.Acknowledgement number) e = None

-- the message that is handed over as a packet comes
abbrev pub handed_by_packet : Packet → End → Option (List ℤ)
handed_by_packet packet e = if e.down then None else handed_by_kind packet.kind e

-- a tick of the node
abbrev pub after_tick : End → End
after_tick e = if e.down then e else record e { sending = after_tick_of e.sending }

-- what a tick sends again, and over which bus
abbrev pub sent_by_tick : End → Option Resent
sent_by_tick e =
    if e.down then None
    else if is_sent_again e.sending then option_map (λ packet. record { bus = e.sending.resend_bus; packet = packet })
    (packet_outstanding e) else None

-- the other node is marked down: what is queued, outstanding or kept in part is thrown away
abbrev pub after_down : End → End
after_down e =
    record e { sending = idle_after e.sending.numbered; receiving = nothing_in_part e.receiving.kept; down = true }

-- Reloads

-- whether a packet that comes bears the incarnations that this end knows, of its sender and of its receiver
abbrev pub is_current : Packet → End → Bool
is_current packet e =
    (packet.incarnation.sender == e.incarnation.receiver) && (packet.incarnation.receiver == e.incarnation.sender)

-- whether a packet bears the incarnations that the packets of this end bear
abbrev pub is_own : Packet → End → Bool
is_own packet e =
    (packet.incarnation.sender == e.incarnation.sender) && (packet.incarnation.receiver == e.incarnation.receiver)

-- the incarnation of a node after the node x was loaded again
abbrev pub incarnation_after : ℕ → ℕ → ℕ → ℕ
incarnation_after x node incarnation = if node == x then incarnation + 1 else incarnation

-- the node x was loaded again, and an end of it or with it is a new one: nothing has gone over it, and it bears the
-- next incarnation of x
abbrev pub next_end : ℕ → End → End
next_end x e =
    new_end e.here e.there (record {
      sender = incarnation_after x e.here e.incarnation.sender;
      receiver = incarnation_after x e.there e.incarnation.receiver;
    })

-- whether an end is one of the node x, or with it
abbrev pub is_of : ℕ → End → Bool
is_of x e = (e.here == x) || (e.there == x)

-- an end after the node x was loaded again
abbrev pub end_after_reload : ℕ → End → End
end_after_reload x e = if is_of x e then next_end x e else e

-- the node x can be loaded again as far as an end knows: incarnations end at the limit of reloads
abbrev pub HasIncarnationLeft : ℕ → End → Type 0
HasIncarnationLeft x e =
    (e.here ≡ x → e.incarnation.sender < MOST_RELOADS) × (e.there ≡ x → e.incarnation.receiver < MOST_RELOADS)

-- the packet that tells the other node that this one is alive; none goes to a node that is marked down
abbrev pub alive_of : End → Option Packet
alive_of e = if e.down then None else Some (packet_of e kind.Alive)

-- whether nothing is outstanding or queued
abbrev pub is_empty : End → Bool
is_empty e = is_idle e.sending

-- whether one more piece can be numbered, and one more kept: numbers end at 4,294,967,295
abbrev pub HasNumbersLeft : End → Type 0
HasNumbersLeft e = (HasNext e.sending.numbered) × (HasNext e.receiving.kept)

-- what is pushed finds a number: it needs one where it goes at once
abbrev pub HasNumberForPush : End → Type 0
HasNumberForPush e = e.down ≡ false → is_idle e.sending ≡ true → HasNext e.sending.numbered
