-- Whatever happens in a net, it stays whole.
use Rattle.std.proofs.Common.{◌≡◌, ◌⊎◌, inl, inr, ◌<◌, ◌≤◌, ◌+◌, ℕ, ℤ, Bool, true, false, List, [], ◌∷◌, ◌++◌, length}
use Rattle.std.proofs.Common.{refl, sym}
use Rattle.std.proofs.Common.{subst, ap, ◌∙◌, arith}
use Rattle.std.proofs.lemmas.List.{append-nil}
use Rattle.std.proofs.lemmas.Bool.{eqb-true, eq-eqb, leb-true}
use Rattle.std.specs.Prelude.{Option, Some, None, ◌==◌, ◌&&◌, ◌||◌, if◌then◌else◌}
use Rattle.std.specs.Option.{option_to_list, option_map}
use Rattle.packet_words.specs.declared.piece.Piece.{Piece}
use Rattle.packet_words.specs.declared.packet.Packet.{Packet}
use Rattle.packet_words.specs.declared.packet.PacketKind.{PacketKind}
use Rattle.packet_words.specs.declared.packet.PacketKind.TheVariants as kind
use Rattle.packet_words.specs.declared.packet.Incarnation.{Incarnation}
use Rattle.packet_words.specs.Pieces.{piece_at}
use Rattle.link_control.specs.declared.channel.Resent.{Resent}
use Rattle.link_control.specs.Ends.{End, Sending, packet_of, packet_outstanding, after_push, sent_by_push, after_packet}
use Rattle.link_control.specs.Ends.{after_kind, sent_by_packet, sent_by_kind, after_tick, sent_by_tick, after_down}
use Rattle.link_control.specs.Ends.{piece_of, after_push_of, after_acknowledgement, after_tick_of, kept, is_kept}
use Rattle.link_control.specs.Ends.{is_idle, is_ended_by, is_sent_again, new_end}
use Rattle.channel_laws.specs.Way.{Way, IsJoint, IsPieceOf, IsReceiptOf, quiet_way, way_after_push, way_after_piece}
use Rattle.channel_laws.specs.Way.{way_after_acknowledgement, way_after_tick}
use Rattle.gd_words.specs.Members.{IsAmong}
use Rattle.channel_laws.specs.Net.{Net, put, Runs, at_end, pushed_net, arrived_net, ticked_net, packet_in, ways_by}
use Rattle.channel_laws.specs.Net.{incarnation_of, quiet_net, Goes, pushes, arrives, ticks, lives, bus_changes, stops}
use Rattle.channel_laws.specs.Net.{marks, loads, Leads, at_once, later, IsTold, IsRight, IsNamed, IsTied, IsWhole}
use Rattle.channel_laws.specs.Net.{IsCurrent, more_reloads, reloaded_net}
use Rattle.gd_words.proofs.Among.{among-either}
use Rattle.channel_laws.proofs.Joints.{joint-quiet, joint-pushing, joint-telling, joint-ticking, joint-coming}
use Rattle.channel_laws.proofs.Joints.{same-piece}
use Rattle.channel_laws.proofs.Packets.{IsLater, later-same, later-pushing, later-coming, later-telling, later-ticking}
use Rattle.channel_laws.proofs.Packets.{piece-outstanding, kind-fits}

-- Tables with one place changed

pub put-same : {A : Type 0} (x y : ℕ) (v : A) (f : ℕ → ℕ → A) → put x y v f x y ≡ v
put-same x y v f = rw (eq-eqb x x refl, eq-eqb y y refl) refl

pub put-all : {A : Type 0} (P : ℕ → ℕ → A → Type 0) (x y : ℕ) (v : A) (f : ℕ → ℕ → A) → P x y v
    → ((a b : ℕ) → P a b (f a b)) → (a b : ℕ) → P a b (put x y v f a b)
put-all {A = A} P x y v f here there a b = go (a == x) (b == y) refl refl
  where
    go : (p q : Bool) → (a == x) ≡ p → (b == y) ≡ q → P a b (if p && q then v else f a b)
    go true true e h = subst (λ c. P c b v) (sym (eqb-true a x e)) (subst (λ d. P x d v) (sym (eqb-true b y h)) here)
    go true false e h = there a b
    go false true e h = there a b
    go false false e h = there a b

pub put-own : {A : Type 0} (x y : ℕ) (f : ℕ → ℕ → A) → put x y (f x y) f ≡ f
put-own x y f = λ i. λ a b. put-all (λ a b v. v ≡ f a b) x y (f x y) f refl (λ a b. refl) a b i

-- Packets in flight

later-put : (x y : ℕ) (v : Way) (f : ℕ → ℕ → Way) → IsLater (f x y) v → (a b : ℕ) → IsLater (f a b) (put x y v f a b)
later-put x y v f h a b = put-all (λ a b w. IsLater (f a b) w) x y v f h (λ a b. later-same (f a b)) a b

right-later : (reloads : ℕ → ℕ) (f g : ℕ → ℕ → Way) → ((a b : ℕ) → IsLater (f a b) (g a b)) → (p : Packet)
    → IsRight reloads f p → IsRight reloads g p
right-later reloads f g h p o =
    record { fits = o.fits; sender = o.sender; receiver = o.receiver; told = λ now. go p.kind (o.told now) }
  where
    go : (k : PacketKind) → IsTold (f p.sender p.receiver) (f p.receiver p.sender) k
        → IsTold (g p.sender p.receiver) (g p.receiver p.sender) k
    go kind.Alive o = o
    go (kind.Piece number piece) o = (h p.sender p.receiver).0 number piece o
    go (kind.Acknowledgement number) o = (h p.receiver p.sender).1 number o

right-sent : (n : Net) (g : ℕ → ℕ → Way) (sent : Option Packet) → ((a b : ℕ) → IsLater (n.ways a b) (g a b)) → IsWhole n
    → ((q : Packet) → sent ≡ Some q → IsRight n.reloads g q) → (p : Packet)
    → IsAmong p (n.flight ++ option_to_list sent) → IsRight n.reloads g p
right-sent n g sent h w new p i = go sent new (among-either _ n.flight (option_to_list sent) i)
  where
    go : (sent : Option Packet) → ((q : Packet) → sent ≡ Some q → IsRight n.reloads g q)
        → IsAmong p n.flight ⊎ IsAmong p (option_to_list sent) → IsRight n.reloads g p
    go sent new (inl j) = right-later n.reloads n.ways g h p (w.flight p j)
    go None new (inr j) = absurd j
    go (Some q) new (inr (inl e)) = new p (ap Some (sym e))
    go (Some q) new (inr (inr j)) = absurd j

-- a packet of an end is right where what it tells is
pub packet-right : (reloads : ℕ → ℕ) (g : ℕ → ℕ → Way) (x y : ℕ) (e : End) (k : PacketKind) → IsNamed reloads x y e
    → IsTold (g x y) (g y x) k
    → IsRight reloads g (packet_of e k)
packet-right reloads g x y e k names told = record {
  fits = kind-fits (g x y) (g y x) k told;
  sender = omega (arith, ap (λ (i : Incarnation). i.sender) current);
  receiver = omega (arith, ap (λ (i : Incarnation). i.receiver) current);
  told = λ now. subst (λ a. IsTold (g a e.there) (g e.there a) k) (sym names.here)
      (subst (λ b. IsTold (g x b) (g b x) k) (sym names.there) told);
}
  where
    current : e.incarnation ≡ incarnation_of reloads e.here e.there
    current = names.incarnation ∙ (λ i. incarnation_of reloads (sym names.here i) (sym names.there i))

-- and so the packet of an outstanding piece
pub right-outstanding : (reloads : ℕ → ℕ) (g : ℕ → ℕ → Way) (x y : ℕ) (e : End) → IsNamed reloads x y e
    → e.sending ≡ (g x y).sender → IsJoint (g x y)
    → (q : Packet) → packet_outstanding e ≡ Some q → IsRight reloads g q
right-outstanding reloads g x y e names tie j q is = by_queue e.sending.queue refl is
  where
    by_piece : (m : List ℤ) (queue : List (List ℤ)) → e.sending.queue ≡ m ∷ queue → (o : Option Piece)
        → piece_at e.sending.place m ≡ o
        → option_map (λ piece. packet_of e (kind.Piece e.sending.numbered piece)) o ≡ Some q → IsRight reloads g q
    by_piece m queue k None cut is = absurd cc
    by_piece m queue k (Some piece) cut is =
        let same : packet_of e (kind.Piece e.sending.numbered piece) ≡ q = cc in
        let told : IsPieceOf (g x y) e.sending.numbered piece =
        subst (λ (s : Sending). s.queue ≡ m ∷ queue → piece_at s.place m ≡ Some piece
        → IsPieceOf (g x y) s.numbered piece) (sym tie)
        (λ l c. piece-outstanding (g x y) m queue piece j l c) k cut in
        subst (IsRight reloads g) same (packet-right reloads g x y e (kind.Piece e.sending.numbered piece) names told)

    by_queue : (queue : List (List ℤ)) → e.sending.queue ≡ queue
        → option_map (λ piece. packet_of e (kind.Piece e.sending.numbered piece)) (piece_of queue e.sending.place)
        ≡ Some q → IsRight reloads g q
    by_queue [] k is = absurd cc
    by_queue (m ∷ queue) k is = by_piece m queue k (piece_at e.sending.place m) refl is

-- Ends of their ways

-- at one end the sender's end of its way is another
tied-sender : (n : Net) (x y : ℕ) (s : Sending) (v : Way) → v.receiver ≡ (n.ways x y).receiver → s ≡ v.sender
    → Runs n x y → IsWhole n
    → (a b : ℕ) → n.stopped a ≡ false → (put x y (record (n.ends x y) { sending = s }) n.ends a b).down ≡ false
    → IsTied (put x y v n.ways) a b (put x y (record (n.ends x y) { sending = s }) n.ends a b)
tied-sender n x y s v r t h w a b live up = go (a == x) (b == y) refl refl up
  where
    e : End
    e = record (n.ends x y) { sending = s }

    same_receivers : (c d : ℕ) → (put x y v n.ways c d).receiver ≡ (n.ways c d).receiver
    same_receivers c d = put-all (λ c d u. u.receiver ≡ (n.ways c d).receiver) x y v n.ways r (λ c d. refl) c d

    old : (n.ends a b).down ≡ false → (put x y v n.ways a b).sender ≡ (n.ways a b).sender
        → IsTied (put x y v n.ways) a b (n.ends a b)
    old up same = let o = w.tied a b (live, up) in
        record { sending = o.sending ∙ sym same; receiving = o.receiving ∙ sym (same_receivers b a) }

    go : (p q : Bool) → (a == x) ≡ p → (b == y) ≡ q → (if p && q then e else n.ends a b).down ≡ false
        → IsTied (put x y v n.ways) a b (if p && q then e else n.ends a b)
    go true true k l up =
        subst (λ c. IsTied (put x y v n.ways) c b e) (sym (eqb-true a x k))
        (subst (λ d. IsTied (put x y v n.ways) x d e) (sym (eqb-true b y l))
        (record {
          sending = t ∙ ap (λ u. u.sender) (sym (put-same x y v n.ways));
          receiving = (w.tied x y h).receiving
              ∙ sym (same_receivers y x);
        }))
    go true false k l up = old up (rw (k, l) refl)
    go false true k l up = old up (rw k refl)
    go false false k l up = old up (rw k refl)

-- at one end the receiver's end of the way back is another
tied-receiver : (n : Net) (x y number : ℕ) (piece : Piece) → Runs n x y → IsWhole n → (a b : ℕ) → n.stopped a ≡ false
    → (put x y (record (n.ends x y) { receiving = kept number piece (n.ends x y).receiving }) n.ends a b).down ≡ false
    → IsTied (put y x (way_after_piece number piece (n.ways y x)) n.ways) a b
    (put x y (record (n.ends x y) { receiving = kept number piece (n.ends x y).receiving }) n.ends a b)
tied-receiver n x y number piece h w a b live up = go (a == x) (b == y) refl refl up
  where
    e : End
    e = record (n.ends x y) { receiving = kept number piece (n.ends x y).receiving }

    v : Way
    v = way_after_piece number piece (n.ways y x)

    same_senders : (c d : ℕ) → (put y x v n.ways c d).sender ≡ (n.ways c d).sender
    same_senders c d = put-all (λ c d u. u.sender ≡ (n.ways c d).sender) y x v n.ways refl (λ c d. refl) c d

    old : (n.ends a b).down ≡ false → (put y x v n.ways b a).receiver ≡ (n.ways b a).receiver
        → IsTied (put y x v n.ways) a b (n.ends a b)
    old up same = let o = w.tied a b (live, up) in
        record { sending = o.sending ∙ sym (same_senders a b); receiving = o.receiving ∙ sym same }

    go : (p q : Bool) → (a == x) ≡ p → (b == y) ≡ q → (if p && q then e else n.ends a b).down ≡ false
        → IsTied (put y x v n.ways) a b (if p && q then e else n.ends a b)
    go true true k l up =
        subst (λ c. IsTied (put y x v n.ways) c b e) (sym (eqb-true a x k))
        (subst (λ d. IsTied (put y x v n.ways) x d e) (sym (eqb-true b y l))
        (record {
          sending = (w.tied x y h).sending ∙ sym (same_senders x y);
          receiving = ap (kept number piece) (w.tied x y h).receiving
              ∙ ap (λ u. u.receiver) (sym (put-same y x v n.ways));
        }))
    go true false k l up = old up (rw l refl)
    go false true k l up = old up (rw (l, k) refl)
    go false false k l up = old up (rw l refl)

-- What happens

-- at an end that isn't thrown away
pub when-up : {A : Type 0} {b : Bool} (x y : A) → b ≡ false → (if b then x else y) ≡ y
when-up x y h = ap (λ b. if b then x else y) h

sent-if : (b : Bool) (o : Option Packet) (q : Packet) → (if b then o else None) ≡ Some q → o ≡ Some q
sent-if true o q e = e
sent-if false o q e = absurd cc

-- a call changes the sender's end
whole-sender : (n : Net) (x y : ℕ) (s : Sending) (v : Way) (sent : Option Packet) → v.receiver ≡ (n.ways x y).receiver
    → s ≡ v.sender → IsJoint v → IsLater (n.ways x y) v
    → ((q : Packet) → sent ≡ Some q → packet_outstanding (record (n.ends x y) { sending = s }) ≡ Some q) → Runs n x y
    → IsWhole n
    → IsWhole (at_end x y (record (n.ends x y) { sending = s }) sent (put x y v n.ways) n)
whole-sender n x y s v sent r t j rises new h w = record {
  joint = put-all (λ a b u. IsJoint u) x y v n.ways j w.joint;
  named = put-all (IsNamed n.reloads) x y e n.ends names w.named;
  tied = λ a b live. tied-sender n x y s v r t h w a b live.0 live.1;
  flight = right-sent n (put x y v n.ways) sent (later-put x y v n.ways rises) w
      (λ q is. right-outstanding n.reloads (put x y v n.ways) x y e names
      (t ∙ ap (λ u. u.sender) (sym (put-same x y v n.ways)))
      (subst IsJoint (sym (put-same x y v n.ways)) j) q (new q is));
}
  where
    e : End
    e = record (n.ends x y) { sending = s }

    names : IsNamed n.reloads x y e
    names = let o = w.named x y in record { here = o.here; there = o.there; incarnation = o.incarnation }

whole-pushed : (n : Net) (x y : ℕ) (m : List ℤ) → 0 < length m → Runs n x y → IsWhole n → IsWhole (pushed_net x y m n)
whole-pushed n x y m some h w = subst (λ e.
    IsWhole (at_end x y e (sent_by_push m (n.ends x y)) (put x y (way_after_push m (n.ways x y)) n.ways) n)) (sym is)
    (whole-sender n x y (after_push_of m (n.ends x y).sending) (way_after_push m (n.ways x y))
    (sent_by_push m (n.ends x y))
    refl (ap (after_push_of m) (w.tied x y h).sending)
    (joint-pushing m (n.ways x y) some (w.joint x y)) (later-pushing m (n.ways x y)) new h w)
  where
    e : End
    e = n.ends x y

    is : after_push m e ≡ record e { sending = after_push_of m e.sending }
    is = when-up e (record e { sending = after_push_of m e.sending }) h.1

    new : (q : Packet) → sent_by_push m e ≡ Some q
        → packet_outstanding (record e { sending = after_push_of m e.sending }) ≡ Some q
    new q s = sym (ap packet_outstanding is)
        ∙ sent-if (is_idle e.sending) (packet_outstanding (after_push m e)) q
        (sym (when-up None (if is_idle e.sending then packet_outstanding (after_push m e) else None) h.1) ∙ s)

whole-ticked : (n : Net) (x y : ℕ) → Runs n x y → IsWhole n → IsWhole (ticked_net x y n)
whole-ticked n x y h w = subst (λ e. IsWhole
    (at_end x y e (option_map packet_in (sent_by_tick (n.ends x y))) (put x y (way_after_tick (n.ways x y)) n.ways) n))
    (sym is)
    (whole-sender n x y (after_tick_of (n.ends x y).sending) (way_after_tick (n.ways x y))
    (option_map packet_in (sent_by_tick (n.ends x y))) refl (ap after_tick_of (w.tied x y h).sending)
    (joint-ticking (n.ways x y) (w.joint x y)) (later-ticking (n.ways x y)) new h w)
  where
    e : End
    e = n.ends x y

    again : Option Packet → Option Resent
    again o = option_map (λ packet. record { bus = e.sending.resend_bus; packet = packet }) o

    is : after_tick e ≡ record e { sending = after_tick_of e.sending }
    is = when-up e (record e { sending = after_tick_of e.sending }) h.1

    same : (o : Option Packet) → option_map packet_in (again o) ≡ o
    same None = refl
    same (Some q) = refl

    by_test : (b : Bool) (q : Packet) → option_map packet_in (if b then again (packet_outstanding e) else None)
        ≡ Some q → packet_outstanding e ≡ Some q
    by_test true q s = sym (same (packet_outstanding e)) ∙ s
    by_test false q s = absurd cc

    new : (q : Packet) → option_map packet_in (sent_by_tick e) ≡ Some q
        → packet_outstanding (record e { sending = after_tick_of e.sending }) ≡ Some q
    new q s = same-piece (λ queue place numbered.
        option_map (λ piece. packet_of e (kind.Piece numbered piece)) (piece_of queue place)) e.sending
        ∙ by_test (is_sent_again e.sending) q (sym
        (ap (option_map packet_in) (when-up None
        (if is_sent_again e.sending then again (packet_outstanding e) else None) h.1)) ∙ s)

whole-told : (n : Net) (x y : ℕ) (p : Packet) (number : ℕ) → p.kind ≡ kind.Acknowledgement number
    → IsReceiptOf (n.ways x y) number → Runs n x y → IsWhole n
    → IsWhole (at_end x y (after_packet p (n.ends x y)) (sent_by_packet p (n.ends x y))
    (put x y (way_after_acknowledgement number (n.ways x y)) n.ways) n)
whole-told n x y p number k o h w = subst
    (λ e. IsWhole (at_end x y e (sent_by_packet p (n.ends x y))
    (put x y (way_after_acknowledgement number (n.ways x y)) n.ways) n))
    (sym is)
    (whole-sender n x y (after_acknowledgement number (n.ends x y).sending)
    (way_after_acknowledgement number (n.ways x y))
    (sent_by_packet p (n.ends x y)) refl (ap (after_acknowledgement number) (w.tied x y h).sending)
    (joint-telling number (n.ways x y) o.1 (w.joint x y)) (later-telling number (n.ways x y)) new h w)
  where
    e : End
    e = n.ends x y

    is : after_packet p e ≡ record e { sending = after_acknowledgement number e.sending }
    is = when-up e (after_kind p.kind e) h.1 ∙ ap (λ k. after_kind k e) k

    new : (q : Packet) → sent_by_packet p e ≡ Some q
        → packet_outstanding (record e { sending = after_acknowledgement number e.sending }) ≡ Some q
    new q s = sent-if (is_ended_by number e.sending)
        (packet_outstanding (record e { sending = after_acknowledgement number e.sending })) q
        (sym (when-up None (sent_by_kind p.kind e) h.1 ∙ ap (λ k. sent_by_kind k e) k) ∙ s)

whole-come : (n : Net) (x y : ℕ) (p : Packet) (number : ℕ) (piece : Piece) → p.kind ≡ kind.Piece number piece
    → IsPieceOf (n.ways y x) number piece → Runs n x y → IsWhole n
    → IsWhole (at_end x y (after_packet p (n.ends x y)) (sent_by_packet p (n.ends x y))
    (put y x (way_after_piece number piece (n.ways y x)) n.ways) n)
whole-come n x y p number piece k o h w =
    subst (λ e. IsWhole (at_end x y e (sent_by_packet p (n.ends x y))
    (put y x (way_after_piece number piece (n.ways y x)) n.ways) n)) (sym is) whole
  where
    e : End
    e = n.ends x y

    v : Way
    v = way_after_piece number piece (n.ways y x)

    g : ℕ → ℕ → Way
    g = put y x v n.ways

    is : after_packet p e ≡ record e { receiving = kept number piece e.receiving }
    is = when-up e (after_kind p.kind e) h.1 ∙ ap (λ k. after_kind k e) k

    answered : (q : Packet) (b : Bool) → is_kept number (kept number piece e.receiving) ≡ b
        → (if b then Some (packet_of e (kind.Acknowledgement number)) else None) ≡ Some q → IsRight n.reloads g q
    answered q false told s = absurd cc
    answered q true told s =
        let same : packet_of e (kind.Acknowledgement number) ≡ q = cc in
        let told_there : is_kept number v.receiver ≡ true =
        ap (λ r. is_kept number (kept number piece r)) (sym (w.tied x y h).receiving) ∙ told in
        let at_v : IsReceiptOf v number = (omega (arith, o.0.count), leb-true _ _ told_there) in
        subst (IsRight n.reloads g) same (packet-right n.reloads g x y e (kind.Acknowledgement number) (w.named x y)
        (subst (λ u. IsReceiptOf u number) (sym (put-same y x v n.ways)) at_v))

    whole : IsWhole (at_end x y (record e { receiving = kept number piece e.receiving }) (sent_by_packet p e) g n)
    whole = record {
      joint = put-all (λ a b u. IsJoint u) y x v n.ways (joint-coming number piece (n.ways y x) o (w.joint y x))
          w.joint;
      named = put-all (IsNamed n.reloads) x y (record e { receiving = kept number piece e.receiving }) n.ends
          (let c = w.named x y in record { here = c.here; there = c.there; incarnation = c.incarnation }) w.named;
      tied = λ a b live. tied-receiver n x y number piece h w a b live.0 live.1;
      flight = right-sent n g (sent_by_packet p e) (later-put y x v n.ways (later-coming number piece (n.ways y x))) w
          (λ q s. answered q (is_kept number (kept number piece e.receiving)) refl
          (sym (when-up None (sent_by_kind p.kind e) h.1 ∙ ap (λ k. sent_by_kind k e) k) ∙ s));
    }

whole-alive : (n : Net) (x y : ℕ) (p : Packet) → p.kind ≡ kind.Alive → Runs n x y → IsWhole n
    → IsWhole (at_end x y (after_packet p (n.ends x y)) (sent_by_packet p (n.ends x y)) n.ways n)
whole-alive n x y p k h w = subst IsWhole (sym (same ∙ same_tables)) w
  where
    e : End
    e = n.ends x y

    is : after_packet p e ≡ e
    is = when-up e (after_kind p.kind e) h.1 ∙ ap (λ k. after_kind k e) k

    none : sent_by_packet p e ≡ None
    none = when-up None (sent_by_kind p.kind e) h.1 ∙ ap (λ k. sent_by_kind k e) k

    same : at_end x y (after_packet p e) (sent_by_packet p e) n.ways n ≡ at_end x y e None n.ways n
    same = λ i. at_end x y (is i) (none i) n.ways n

    same_tables : at_end x y e None n.ways n ≡ n
    same_tables = λ i. record n { ends = put-own x y n.ends i; flight = append-nil n.flight i }

whole-arrived : (n : Net) (p : Packet) → IsAmong p n.flight → IsCurrent n.reloads p → Runs n p.receiver p.sender
    → IsWhole n → IsWhole (arrived_net p.receiver p.sender p n)
whole-arrived n p i now h w = go p.kind refl ((w.flight p i).told now)
  where
    go : (k : PacketKind) → p.kind ≡ k → IsTold (n.ways p.sender p.receiver) (n.ways p.receiver p.sender) k
        → IsWhole (at_end p.receiver p.sender (after_packet p (n.ends p.receiver p.sender))
        (sent_by_packet p (n.ends p.receiver p.sender)) (ways_by p.receiver p.sender k n.ways) n)
    go kind.Alive k o = whole-alive n p.receiver p.sender p k h w
    go (kind.Piece number piece) k o = whole-come n p.receiver p.sender p number piece k o h w
    go (kind.Acknowledgement number) k o = whole-told n p.receiver p.sender p number k o h w

-- A node is loaded again

-- of its ends and ways, or of another one
by-of : {A : Type 0} (P : A → Type 0) (test : Bool) (new old : A) → P new → P old → P (if test then new else old)
by-of P true new old here there = here
by-of P false new old here there = there

named-loaded : (n : Net) (x a b : ℕ) → IsWhole n → IsNamed (more_reloads x n.reloads) a b ((reloaded_net x n).ends a b)
named-loaded n x a b w = by (a == x) (b == x) refl refl
  where
    Now : ℕ → ℕ
    Now = more_reloads x n.reloads

    same : (c : ℕ) → (c == x) ≡ false → Now c ≡ n.reloads c
    same c e = ap (λ t. if t then n.reloads x + 1 else n.reloads c) e

    new : IsNamed Now a b (new_end a b (incarnation_of Now a b))
    new = record { here = refl; there = refl; incarnation = refl }

    by : (c d : Bool) → (a == x) ≡ c → (b == x) ≡ d
        → IsNamed Now a b (if c || d then new_end a b (incarnation_of Now a b) else n.ends a b)
    by true d e h = new
    by false true e h = new
    by false false e h = let o = w.named a b in record {
      here = o.here;
      there = o.there;
      incarnation = o.incarnation ∙ (λ i. record { sender = sym (same a e) i; receiver = sym (same b h) i });
    }

tied-loaded : (n : Net) (x a b : ℕ) → IsWhole n → Runs (reloaded_net x n) a b
    → IsTied (reloaded_net x n).ways a b ((reloaded_net x n).ends a b)
tied-loaded n x a b w live = by (a == x) (b == x) refl refl live.0 live.1
  where
    new : End
    new = new_end a b (incarnation_of (more_reloads x n.reloads) a b)

    by : (c d : Bool) → (a == x) ≡ c → (b == x) ≡ d → (if c then false else n.stopped a) ≡ false
        → (if c || d then new else n.ends a b).down ≡ false
        → IsTied (reloaded_net x n).ways a b (if c || d then new else n.ends a b)
    by true d e h runs up = record {
      sending = ap (λ t. (if t || (b == x) then quiet_way else n.ways a b).sender) (sym e);
      receiving = by_there (b == x) ∙ ap (λ t. (if (b == x) || t then quiet_way else n.ways b a).receiver) (sym e);
    }
      where
        by_there : (t : Bool) → new.receiving ≡ (if t || true then quiet_way else n.ways b a).receiver
        by_there true = refl
        by_there false = refl
    by false true e h runs up = record {
      sending = by_there (a == x) ∙ ap (λ t. (if (a == x) || t then quiet_way else n.ways a b).sender) (sym h);
      receiving = ap (λ t. (if t || (a == x) then quiet_way else n.ways b a).receiver) (sym h);
    }
      where
        by_there : (t : Bool) → new.sending ≡ (if t || true then quiet_way else n.ways a b).sender
        by_there true = refl
        by_there false = refl
    by false false e h runs up = let o = w.tied a b (runs, up) in record {
      sending = o.sending
          ∙ sym (ap (λ t. (if t || (b == x) then quiet_way else n.ways a b).sender) e
          ∙ ap (λ t. (if t then quiet_way else n.ways a b).sender) h);
      receiving = o.receiving
          ∙ sym (ap (λ t. (if t || (a == x) then quiet_way else n.ways b a).receiver) h
          ∙ ap (λ t. (if t then quiet_way else n.ways b a).receiver) e);
    }

right-loaded : (n : Net) (x : ℕ) (p : Packet) → IsRight n.reloads n.ways p
    → IsRight (more_reloads x n.reloads) (reloaded_net x n).ways p
right-loaded n x p o = record {
  fits = o.fits;
  sender = more p.sender p.incarnation.sender o.sender;
  receiver = more p.receiver p.incarnation.receiver o.receiver;
  told = λ now. by (p.sender == x) (p.receiver == x) refl refl
      (ap (λ (i : Incarnation). i.sender) now) (ap (λ (i : Incarnation). i.receiver) now);
}
  where
    more : (c incarnation : ℕ) → incarnation ≤ n.reloads c → incarnation ≤ more_reloads x n.reloads c
    more c incarnation low = go (c == x) refl
      where
        go : (t : Bool) → (c == x) ≡ t → incarnation ≤ (if t then n.reloads x + 1 else n.reloads c)
        go true e = omega (arith, low, ap n.reloads (eqb-true c x e))
        go false e = low

    -- what bears the present incarnations now isn't of x, and bore them before
    by : (c d : Bool) → (p.sender == x) ≡ c → (p.receiver == x) ≡ d
        → p.incarnation.sender ≡ (if c then n.reloads x + 1 else n.reloads p.sender)
        → p.incarnation.receiver ≡ (if d then n.reloads x + 1 else n.reloads p.receiver)
        → IsTold (if c || d then quiet_way else n.ways p.sender p.receiver)
        (if d || c then quiet_way else n.ways p.receiver p.sender) p.kind
    by true d e h one other = absurd (omega (arith, one, o.sender, ap n.reloads (eqb-true p.sender x e)))
    by false true e h one other = absurd (omega (arith, other, o.receiver, ap n.reloads (eqb-true p.receiver x h)))
    by false false e h one other = o.told (λ i. record { sender = one i; receiver = other i })

pub whole-goes : {n next : Net} → Goes n next → IsWhole n → IsWhole next
whole-goes {n = n} (pushes x y m some h) w = whole-pushed n x y m some h w
whole-goes {n = n} (arrives p i now h) w = whole-arrived n p i now h w
whole-goes {n = n} (ticks x y h) w = whole-ticked n x y h w
whole-goes {n = n} (lives x y h) w = record {
  joint = w.joint;
  named = w.named;
  tied = w.tied;
  flight = right-sent n n.ways (Some (packet_of (n.ends x y) kind.Alive)) (λ a b. later-same (n.ways a b)) w
      (λ q s. let same : packet_of (n.ends x y) kind.Alive ≡ q = cc in
      subst (IsRight n.reloads n.ways) same (packet-right n.reloads n.ways x y (n.ends x y) kind.Alive
      (w.named x y) tt));
}
whole-goes {n = n} (bus_changes flight fewer) w =
    record { joint = w.joint; named = w.named; tied = w.tied; flight = λ q i. w.flight q (fewer q i) }
whole-goes {n = n} (stops x) w = record {
  joint = w.joint;
  named = w.named;
  flight = w.flight;
  tied = λ a b live. w.tied a b (go a (a == x) live.0, live.1);
}
  where
    go : (a : ℕ) (t : Bool) → (if t then true else n.stopped a) ≡ false → n.stopped a ≡ false
    go a true l = absurd cc
    go a false l = l
whole-goes {n = n} (marks x y gone) w = record {
  joint = w.joint;
  named = put-all (IsNamed n.reloads) x y (after_down (n.ends x y)) n.ends
      (let c = w.named x y in record { here = c.here; there = c.there; incarnation = c.incarnation }) w.named;
  flight = w.flight;
  tied = λ a b live. go a b live.0 (a == x && b == y) live.1;
}
  where
    go : (a b : ℕ) → n.stopped a ≡ false → (t : Bool)
        → (if t then after_down (n.ends x y) else n.ends a b).down ≡ false
        → IsTied n.ways a b (if t then after_down (n.ends x y) else n.ends a b)
    go a b live true up = absurd cc
    go a b live false up = w.tied a b (live, up)
whole-goes {n = n} (loads x gone) w = record {
  joint = λ a b. by-of IsJoint ((a == x) || (b == x)) quiet_way (n.ways a b) joint-quiet (w.joint a b);
  named = λ a b. named-loaded n x a b w;
  tied = λ a b live. tied-loaded n x a b w live;
  flight = λ p i. right-loaded n x p (w.flight p i);
}

pub whole-quiet : (reloads : ℕ → ℕ) → IsWhole (quiet_net reloads)
whole-quiet reloads = record {
  joint = λ a b. joint-quiet;
  named = λ a b. record { here = refl; there = refl; incarnation = refl };
  tied = λ a b live. record { sending = refl; receiving = refl };
  flight = λ p i. absurd i;
}

pub whole-run : (reloads : ℕ → ℕ) {n : Net} → Leads (quiet_net reloads) n → IsWhole n
whole-run reloads at_once = whole-quiet reloads
whole-run reloads (later r g) = whole-goes g (whole-run reloads r)
