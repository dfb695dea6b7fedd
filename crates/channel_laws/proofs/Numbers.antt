-- Numbers rise by at most one in a call.
use Rattle.std.proofs.Common.{◌≤◌, ◌+◌, ◌*◌, ℕ, ℤ, Bool, true, false, List, [], ◌∷◌, length, arith}
use Rattle.std.specs.Prelude.{◌==◌, nat_lt, if◌then◌else◌}
use Rattle.schedule.specs.declared.bus_name.BusName.{BusName}
use Rattle.packet_words.specs.declared.piece.Piece.{Piece}
use Rattle.packet_words.specs.declared.packet.PacketKind.{PacketKind}
use Rattle.packet_words.specs.declared.packet.PacketKind.TheVariants as kind
use Rattle.packet_words.specs.Pieces.{words_with_piece}
use Rattle.link_control.specs.Ends.{End, Sending, Receiving, numbered_at, new_sending, after_push_of, moved_on}
use Rattle.link_control.specs.Ends.{after_acknowledgement, after_tick_of, kept, is_next, after_kind}
use Rattle.channel_laws.specs.Way.{IsOneOn}
use Rattle.channel_laws.proofs.Joints.{same-piece}

pub one-pushed : (m : List ℤ) (s : Sending) → (after_push_of m s).numbered ≤ s.numbered + 1
one-pushed m s = go s.queue s.place s.numbered s.waited s.resend_bus
  where
    go : (queue : List (List ℤ)) (place numbered : ℕ) (waited : Bool) (resend_bus : BusName)
        → (after_push_of m (record {
          queue = queue;
          place = place;
          numbered = numbered;
          waited = waited;
          resend_bus = resend_bus;
        })).numbered ≤ numbered + 1
    go [] place numbered waited resend_bus = omega arith
    go (q ∷ queue) place numbered waited resend_bus = omega arith

one-begun : (queue : List (List ℤ)) (numbered : ℕ) → (new_sending queue numbered).numbered ≤ numbered + 1
one-begun [] numbered = omega arith
one-begun (q ∷ queue) numbered = omega arith

one-acknowledged : (number : ℕ) (s : Sending) → (after_acknowledgement number s).numbered ≤ s.numbered + 1
one-acknowledged number s = go s.queue s.place s.numbered s.waited s.resend_bus
  where
    moved : (q : List ℤ) (queue : List (List ℤ)) (place numbered : ℕ) (b : Bool)
        → (if b then numbered_at (place + 1) (q ∷ queue) numbered else new_sending queue numbered).numbered
        ≤ numbered + 1
    moved q queue place numbered true = omega arith
    moved q queue place numbered false = one-begun queue numbered

    ended : (q : List ℤ) (queue : List (List ℤ)) (place numbered : ℕ) (waited : Bool) (resend_bus : BusName) (b : Bool)
        → (if b then moved_on (q ∷ queue) (record
        { queue = q ∷ queue; place = place; numbered = numbered; waited = waited; resend_bus = resend_bus })
        else record {
          queue = q ∷ queue;
          place = place;
          numbered = numbered;
          waited = waited;
          resend_bus = resend_bus;
        }).numbered ≤ numbered + 1
    ended q queue place numbered waited resend_bus true =
        moved q queue place numbered (nat_lt (10 * (place + 1)) (length q))
    ended q queue place numbered waited resend_bus false = omega arith

    go : (queue : List (List ℤ)) (place numbered : ℕ) (waited : Bool) (resend_bus : BusName)
        → (after_acknowledgement number (record
        { queue = queue; place = place; numbered = numbered; waited = waited; resend_bus = resend_bus })).numbered
        ≤ numbered + 1
    go [] place numbered waited resend_bus = omega arith
    go (q ∷ queue) place numbered waited resend_bus =
        ended q queue place numbered waited resend_bus (number == numbered)

one-kept : (number : ℕ) (piece : Piece) (r : Receiving) → (kept number piece r).kept ≤ r.kept + 1
one-kept number piece r = go (is_next number r)
  where
    go : (b : Bool) → (if b then record { kept = r.kept + 1; part = words_with_piece piece r.part } else
        r).kept ≤ r.kept + 1
    go true = omega arith
    go false = omega arith

pub one-kind : (k : PacketKind) (e : End) → IsOneOn e (after_kind k e)
one-kind kind.Alive e = (omega arith, omega arith)
one-kind (kind.Piece number piece) e = (omega arith, one-kept number piece e.receiving)
one-kind (kind.Acknowledgement number) e = (one-acknowledged number e.sending, omega arith)

pub one-ticked : (s : Sending) → (after_tick_of s).numbered ≤ s.numbered + 1
one-ticked s = omega (arith, same-piece (λ queue place numbered. numbered) s)

pub one-unless_down : (b : Bool) (e next : End) → IsOneOn e next → IsOneOn e (if b then e else next)
one-unless_down true e next h = (omega arith, omega arith)
one-unless_down false e next h = h
