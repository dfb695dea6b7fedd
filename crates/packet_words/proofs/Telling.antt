-- The words of a packet tell it.
use Rattle.std.proofs.Common.{◌≡◌, ◌<◌, ◌≤◌, ◌+◌, ◌-◌, ◌*◌, ◌/◌, ◌%◌, ℕ, List, ℤ, Bool, true, false, length, take}
use Rattle.std.proofs.Common.{replicate, pos, refl, ap, sym, ◌∙◌, arith}
use Rattle.std.proofs.lemmas.Int.{of_z-to_z}
use Rattle.std.proofs.lemmas.List.{take_all}
use Rattle.std.proofs.Math.Seq.{take-append_seam}
use Rattle.std.proofs.lemmas.Bool.{leb-true, le-leb, lt-leb}
use Rattle.std.specs.Prelude.{◌&&◌, ◌||◌, ◌==◌, nat_le, nat_lt, if◌then◌else◌}
use Rattle.std.specs.Int.{w16, cast_unsigned}
use Rattle.packet_words.specs.declared.packet.Packet.{Packet}
use Rattle.packet_words.specs.declared.packet.PacketKind.{PacketKind}
use Rattle.packet_words.specs.declared.packet.PacketKind.TheVariants as kind
use Rattle.packet_words.specs.declared.piece.Piece.{Piece}
use Rattle.packet_words.specs.Layout.{is_piece, is_kind, is_packet, pattern, kind_number, number_in, shape_of, filled}
use Rattle.packet_words.specs.Layout.{content_of, words_of}
use Rattle.packet_words.specs.Telling.{piece_told, kind_told, told}

and-left : (a b : Bool) → (a && b) ≡ true → a ≡ true
and-left true b e = refl
and-left false b e = absurd cc

and-right : (a b : Bool) → (a && b) ≡ true → b ≡ true
and-right true b e = e
and-right false b e = absurd cc

-- a number below 65,536 stands in its pattern
pub again : (n : ℕ) → n < 65536 → cast_unsigned w16 (pattern n) ≡ n
again n small = of_z-to_z w16 n small

-- a shape tells whether its piece is the last, and how many words it has
last_told : (last : Bool) (count : ℕ) → count ≤ 10 → nat_le 16 (count + (if last then 16 else 0)) ≡ last
last_told true count few = le-leb 16 (count + 16) (omega arith)
last_told false count few = lt-leb 16 (count + 0) (omega (arith, few))

count_told : (last : Bool) (count : ℕ) → count ≤ 10 → (count + (if last then 16 else 0)) % 16 ≡ count
count_told true count few = omega (arith, few)
count_told false count few = omega (arith, few)

shape_small : (last : Bool) (count : ℕ) → count ≤ 10 → count + (if last then 16 else 0) < 65536
shape_small true count few = omega (arith, few)
shape_small false count few = omega (arith, few)

few_words : (piece : Piece) → is_piece piece ≡ true → length piece.words ≤ 10
few_words piece is =
    leb-true _ _ (and-right (nat_lt 0 (length piece.words)) (nat_le (length piece.words) 10)
    (and-left (nat_lt 0 (length piece.words) && nat_le (length piece.words) 10)
    (piece.last || (length piece.words == 10)) is))

front_again : (words : List ℤ) → length words ≤ 10 → take 10 (take (length words) (filled words)) ≡ words
front_again words few =
    ap (take 10) (take-append_seam words (replicate (10 - length words) (pos 0))) ∙ take_all 10 words few

piece_again : (piece : Piece) → is_piece piece ≡ true
    → piece_told (length piece.words + (if piece.last then 16 else 0)) (filled piece.words) ≡ piece
piece_again piece is =
    let few = few_words piece is in
    λ i. record {
      last = last_told piece.last (length piece.words) few i;
      words = (ap (λ count. take 10 (take count (filled piece.words))) (count_told piece.last (length piece.words) few)
          ∙ front_again piece.words few) i;
    }

-- a kind is told by its number, its packet's number, its shape and its content
kind_again : (k : PacketKind) → is_kind k ≡ true
    → kind_told (kind_number k) (number_in k) (shape_of k) (content_of k) ≡ k
kind_again kind.Alive is = refl
kind_again (kind.Piece number piece) is =
    ap (kind.Piece number) (piece_again piece (and-right (nat_lt 0 number) (is_piece piece) is))
kind_again (kind.Acknowledgement number) is = refl

kind_small : (k : PacketKind) → kind_number k < 65536
kind_small kind.Alive = omega arith
kind_small (kind.Piece number piece) = omega arith
kind_small (kind.Acknowledgement number) = omega arith

shape_fits : (k : PacketKind) → is_kind k ≡ true → shape_of k < 65536
shape_fits kind.Alive is = omega arith
shape_fits (kind.Piece number piece) is =
    shape_small piece.last (length piece.words) (few_words piece (and-right (nat_lt 0 number) (is_piece piece) is))
shape_fits (kind.Acknowledgement number) is = omega arith

record Ranges (packet : Packet) : Type 0 where
  pub sender : packet.sender ≤ 16
  pub receiver : packet.receiver ≤ 16
  pub sender_incarnation : packet.incarnation.sender ≤ 127
  pub receiver_incarnation : packet.incarnation.receiver ≤ 127
  pub kind : is_kind packet.kind ≡ true

ranges : (packet : Packet) → is_packet packet ≡ true → Ranges packet
ranges packet is =
    let s = nat_le packet.sender 16 in
    let r = nat_le packet.receiver 16 in
    let i = nat_le packet.incarnation.sender 127 in
    let j = nat_le packet.incarnation.receiver 127 in
    let k = is_kind packet.kind in
    let four = and-left (s && r && i && j) k is in
    let three = and-left (s && r && i) j four in
    let two = and-left (s && r) i three in
    record {
      sender = leb-true _ _ (and-left s r two);
      receiver = leb-true _ _ (and-right s r two);
      sender_incarnation = leb-true _ _ (and-right (s && r) i three);
      receiver_incarnation = leb-true _ _ (and-right (s && r && i) j four);
      kind = and-right (s && r && i && j) k is;
    }

pub told_again : (packet : Packet) → number_in packet.kind < 4294967296 → is_packet packet ≡ true
    → told (words_of packet) ≡ packet
told_again packet small is =
    let r = ranges packet is in
    let address = again (packet.sender * 32 + packet.receiver) (omega (arith, r.sender, r.receiver)) in
    let incarnation = again (packet.incarnation.sender * 128 + packet.incarnation.receiver)
    (omega (arith, r.sender_incarnation, r.receiver_incarnation)) in
    let kind = again (kind_number packet.kind) (kind_small packet.kind) in
    let high = again (number_in packet.kind / 65536) (omega (arith, small)) in
    let low = again (number_in packet.kind % 65536) (omega arith) in
    let shape = again (shape_of packet.kind) (shape_fits packet.kind r.kind) in
    let sender_is : (packet.sender * 32 + packet.receiver) / 32 % 32 ≡ packet.sender =
    omega (arith, r.sender, r.receiver) in
    let receiver_is : (packet.sender * 32 + packet.receiver) % 32 ≡ packet.receiver = omega (arith, r.receiver) in
    let first_is : (packet.incarnation.sender * 128 + packet.incarnation.receiver) / 128 % 128
    ≡ packet.incarnation.sender = omega (arith, r.sender_incarnation, r.receiver_incarnation) in
    let second_is : (packet.incarnation.sender * 128 + packet.incarnation.receiver) % 128
    ≡ packet.incarnation.receiver = omega (arith, r.receiver_incarnation) in
    let number_is : number_in packet.kind / 65536 * 65536 + number_in packet.kind % 65536 ≡ number_in packet.kind =
    omega arith in
    let kind_is =
    (λ i. kind_told (kind i) (high i * 65536 + low i) (shape i) (content_of packet.kind))
    ∙ ap (λ number. kind_told (kind_number packet.kind) number (shape_of packet.kind) (content_of packet.kind))
    number_is
    ∙ kind_again packet.kind r.kind in
    λ i. record {
      sender = (ap (λ n. n / 32 % 32) address ∙ sender_is) i;
      receiver = (ap (λ n. n % 32) address ∙ receiver_is) i;
      incarnation = record {
        sender = (ap (λ n. n / 128 % 128) incarnation ∙ first_is) i;
        receiver = (ap (λ n. n % 128) incarnation ∙ second_is) i;
      };
      kind = kind_is i;
    }

-- packets with the same words are one
pub told_apart : (one other : Packet) → is_packet one ≡ true → is_packet other ≡ true → number_in one.kind < 4294967296
    → number_in other.kind < 4294967296
    → words_of one ≡ words_of other → one ≡ other
told_apart one other is_one is_other small_one small_other same =
    sym (told_again one small_one is_one) ∙ ap told same ∙ told_again other small_other is_other
