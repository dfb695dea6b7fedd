-- What is a piece or an acknowledgement of a way stays one, and is within the layout.
use Rattle.std.proofs.Common.{◌≡◌, ◌<◌, ◌≤◌, ◌+◌, ◌*◌, ℕ, ℤ, Bool, true, false, List, [], ◌∷◌, ◌++◌, length}
use Rattle.std.proofs.Common.{length-drop, take, drop, refl, sym, subst, ap, ◌∙◌, arith}
use Rattle.std.proofs.lemmas.List.{append_assoc, length-take, length-take-le}
use Rattle.std.proofs.lemmas.Bool.{leb-false, le-leb, lt-ltb, eq-eqb}
use Rattle.std.specs.Prelude.{◌==◌, ◌||◌, nat_lt, nat_le, Some, if◌then◌else◌}
use Rattle.schedule.specs.declared.bus_name.BusName.{BusName}
use Rattle.packet_words.specs.declared.piece.Piece.{Piece}
use Rattle.packet_words.specs.Pieces.{words_with_piece, piece_at}
use Rattle.packet_words.specs.declared.packet.PacketKind.{PacketKind}
use Rattle.packet_words.specs.declared.packet.PacketKind.TheVariants as kind
use Rattle.packet_words.specs.Layout.{is_kind, is_piece}
use Rattle.link_control.specs.Ends.{Sending, Receiving, numbered_at, new_sending, after_tick_of, after_acknowledgement}
use Rattle.link_control.specs.Ends.{moved_on, is_next, kept}
use Rattle.channel_laws.specs.Way.{Way, IsJoint, IsCut, IsPieceOf, IsReceiptOf, way_after_push, way_after_piece}
use Rattle.channel_laws.specs.Way.{way_after_acknowledgement, way_after_tick}
use Rattle.channel_laws.specs.Way.{opened}
use Rattle.channel_laws.specs.Net.{IsTold}
use Rattle.channel_laws.proofs.Places.{cut-is}
use Rattle.channel_laws.proofs.Joints.{numbered-pushed, same-piece}

-- Numbers only rise

pub numbered-begun : (queue : List (List ℤ)) (numbered : ℕ) → numbered ≤ (new_sending queue numbered).numbered
numbered-begun [] numbered = omega arith
numbered-begun (q ∷ queue) numbered = omega arith

pub numbered-acknowledged : (number : ℕ) (s : Sending) → s.numbered ≤ (after_acknowledgement number s).numbered
numbered-acknowledged number s = go s.queue s.place s.numbered s.waited s.resend_bus
  where
    moved : (q : List ℤ) (queue : List (List ℤ)) (place numbered : ℕ) (b : Bool)
        → numbered ≤ (if b then numbered_at (place + 1) (q ∷ queue) numbered else new_sending queue numbered).numbered
    moved q queue place numbered true = omega arith
    moved q queue place numbered false = numbered-begun queue numbered

    ended : (q : List ℤ) (queue : List (List ℤ)) (place numbered : ℕ) (waited : Bool) (resend_bus : BusName) (b : Bool)
        → numbered ≤ (if b then moved_on (q ∷ queue)
        (record { queue = q ∷ queue; place = place; numbered = numbered; waited = waited; resend_bus = resend_bus })
        else record {
          queue = q ∷ queue;
          place = place;
          numbered = numbered;
          waited = waited;
          resend_bus = resend_bus;
        }).numbered
    ended q queue place numbered waited resend_bus true =
        moved q queue place numbered (nat_lt (10 * (place + 1)) (length q))
    ended q queue place numbered waited resend_bus false = omega arith

    go : (queue : List (List ℤ)) (place numbered : ℕ) (waited : Bool) (resend_bus : BusName)
        → numbered ≤ (after_acknowledgement number
        (record {
          queue = queue;
          place = place;
          numbered = numbered;
          waited = waited;
          resend_bus = resend_bus;
        })).numbered
    go [] place numbered waited resend_bus = omega arith
    go (q ∷ queue) place numbered waited resend_bus =
        ended q queue place numbered waited resend_bus (number == numbered)

pub numbered-ticked : (s : Sending) → s.numbered ≤ (after_tick_of s).numbered
numbered-ticked s = omega (arith, same-piece (λ queue place numbered. numbered) s)

pub kept-rises : (number : ℕ) (piece : Piece) (r : Receiving) → r.kept ≤ (kept number piece r).kept
kept-rises number piece r = go (is_next number r)
  where
    go : (b : Bool) → r.kept ≤ (if b then record
        { kept = r.kept + 1; part = words_with_piece piece r.part } else r).kept
    go true = omega arith
    go false = omega arith

-- What is of a way stays so

pub cut-more : (m : List ℤ) (messages : List (List ℤ)) (number : ℕ) (piece : Piece) → IsCut messages number piece
    → IsCut (messages ++ m ∷ []) number piece
cut-more m messages number piece c = record {
  before = c.before;
  message = c.message;
  after = c.after ++ m ∷ [];
  split = ap (λ xs. xs ++ m ∷ []) c.split ∙ append_assoc c.before (c.message ∷ c.after) (m ∷ []);
  k = c.k;
  cut = c.cut;
  count = c.count;
}

-- which packets are of a way later too
abbrev pub IsLater : Way → Way → Type 0
IsLater w v = ((number : ℕ) (piece : Piece) → IsPieceOf w number piece → IsPieceOf v number piece)
    × ((number : ℕ) → IsReceiptOf w number → IsReceiptOf v number)

pub later-same : (w : Way) → IsLater w w
later-same w = (λ number piece o. o, λ number o. o)

pub later-sender : (w : Way) (s : Sending) → w.sender.numbered ≤ s.numbered → IsLater w (record w { sender = s })
later-sender w s more = (λ number piece o. (o.0, omega (arith, o.1, more)), λ number o. o)

pub later-pushing : (m : List ℤ) (w : Way) → IsLater w (way_after_push m w)
later-pushing m w = (
  λ number piece o. (
    cut-more m w.pushes number piece o.0,
    omega (arith, o.1, numbered-pushed m w.sender),
  ),
  λ number o. o,
)

pub later-coming : (number : ℕ) (piece : Piece) (w : Way) → IsLater w (way_after_piece number piece w)
later-coming number piece w =
    (λ other more o. o, λ other o. (o.0, omega (arith, o.1, kept-rises number piece w.receiver)))

pub later-telling : (number : ℕ) (w : Way) → IsLater w (way_after_acknowledgement number w)
later-telling number w = later-sender w (after_acknowledgement number w.sender) (numbered-acknowledged number w.sender)

pub later-ticking : (w : Way) → IsLater w (way_after_tick w)
later-ticking w = later-sender w (after_tick_of w.sender) (numbered-ticked w.sender)

-- the outstanding piece is of its way
pub piece-outstanding : (w : Way) (q : List ℤ) (queue : List (List ℤ)) (piece : Piece) → IsJoint w
    → w.sender.queue ≡ q ∷ queue → piece_at w.sender.place q ≡ Some piece
    → IsPieceOf w w.sender.numbered piece
piece-outstanding w q queue piece j e cut = (
  record {
    before = j.sending.done;
    message = q;
    after = queue;
    split = j.sending.sent ∙ ap (λ xs. j.sending.done ++ xs) e;
    k = w.sender.place;
    cut = cut;
    count = omega (arith, j.sending.numbered, j.sending.count, ap opened e);
  },
  omega arith,
)

-- Packets of a way are within the layout

pub piece-fits : (piece : Piece) (k : ℕ) (m : List ℤ) → piece_at k m ≡ Some piece → is_piece piece ≡ true
piece-fits piece k m cut = subst (λ p. is_piece p ≡ true) (sym (cut-is k m piece cut).1)
    (rw (
      lt-ltb 0 (length (take 10 left)) (omega (arith, some, length-take 10 left)),
      le-leb (length (take 10 left)) 10 (omega (arith, length-take 10 left)),
      full (nat_le (length left) 10) refl,
    )
    refl)
  where
    left : List ℤ
    left = drop (10 * k) m

    some : 0 < length left
    some = omega (arith, length-drop (10 * k) m, (cut-is k m piece cut).0)

    full : (b : Bool) → nat_le (length left) 10 ≡ b → (nat_le (length left) 10 || (length (take 10 left) == 10)) ≡ true
    full true is = rw is refl
    full false is = rw is (eq-eqb (length (take 10 left)) 10 (length-take-le 10 left (omega (arith, leb-false _ _ is))))

-- what is told by a packet of a way keeps to the layout
pub kind-fits : (there back : Way) (k : PacketKind) → IsTold there back k → is_kind k ≡ true
kind-fits there back kind.Alive o = refl
kind-fits there back (kind.Piece number piece) o =
    rw (lt-ltb 0 number (omega (arith, o.0.count)), piece-fits piece o.0.k o.0.message o.0.cut) refl
kind-fits there back (kind.Acknowledgement number) o = lt-ltb 0 number o.0
