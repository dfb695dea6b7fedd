-- In a net four rounds end an outstanding piece between two nodes that run.
use Rattle.std.proofs.Common.{◌≡◌, ◌≢◌, ◌⊎◌, inl, inr, ◌≤◌, ◌+◌, ◌*◌, ℕ, ℤ, Bool, true, false, List, [], ◌∷◌, ◌++◌}
use Rattle.std.proofs.Common.{length, drop, refl, sym, subst, ap, ◌∙◌, arith}
use Rattle.std.proofs.lemmas.Bool.{eqb-true, eqb-false, ltb-true, ltb-false, le-leb, lt-ltb}
use Rattle.std.specs.Prelude.{Option, Some, None, ◌==◌, nat_lt, if◌then◌else◌}
use Rattle.std.specs.Option.{option_map, option_to_list}
use Rattle.schedule.specs.declared.bus_name.BusName.{BusName}
use Rattle.packet_words.specs.declared.piece.Piece.{Piece}
use Rattle.packet_words.specs.declared.packet.Packet.{Packet}
use Rattle.packet_words.specs.declared.packet.PacketKind.{PacketKind}
use Rattle.packet_words.specs.declared.packet.PacketKind.TheVariants as kind
use Rattle.packet_words.specs.Pieces.{words_with_piece, piece_at, first_piece}
use Rattle.link_control.specs.declared.channel.Resent.{Resent}
use Rattle.link_control.specs.Ends.{End, Sending, packet_of, packet_outstanding, after_push, after_packet, after_kind}
use Rattle.link_control.specs.Ends.{after_tick, after_push_of, after_down, sent_by_push, sent_by_packet, sent_by_kind}
use Rattle.link_control.specs.Ends.{sent_by_tick, after_tick_of, kept, is_kept, is_next, is_sent_again}
use Rattle.channel_laws.specs.Way.{Way, IsJoint, IsEnded, IsWithin, way_after_push, way_after_piece}
use Rattle.channel_laws.specs.Way.{way_after_acknowledgement, way_after_tick}
use Rattle.gd_words.specs.Members.{IsAmong}
use Rattle.channel_laws.specs.Net.{incarnation_of, IsCurrent}
use Rattle.channel_laws.specs.Net.{Net, Goes, put, put_one, Runs, packet_in, ways_by, arrived_net, ticked_net, pushes}
use Rattle.channel_laws.specs.Net.{arrives, ticks, lives, bus_changes, stops, marks, IsWhole}
use Rattle.channel_laws.specs.Rounds.{Passes, nothing, by_push, by_packet, by_drop, by_tick, by_alive, by_bus, by_stop}
use Rattle.channel_laws.specs.Rounds.{by_mark, IsRound, IsFlying, HasWaited, IsAnswered, IsSent, IsBroughtOn}
use Rattle.gd_words.proofs.Among.{among-left, among-right}
use Rattle.channel_laws.proofs.Joints.{numbered-pushed, opened-few}
use Rattle.channel_laws.proofs.Packets.{numbered-acknowledged, numbered-ticked}
use Rattle.channel_laws.proofs.Senders.{on-pushed, on-told, on-ticked, hit, ticked-cases}
use Rattle.channel_laws.proofs.Nets.{whole-goes, put-same, put-all, when-up}

-- The stages of the piece n from a to b, by the sender's end of the way

abbrev pub EndedIn : ℕ → ℕ → ℕ → Net → Type 0
EndedIn n a b m = IsEnded n (m.ways a b).sender

abbrev pub WaitedIn : ℕ → ℕ → ℕ → Net → Type 0
WaitedIn n a b m = HasWaited n (m.ways a b).sender

abbrev pub AnsweredIn : ℕ → ℕ → ℕ → Net → Type 0
AnsweredIn n a b m = IsAnswered m.reloads n a b (m.ways a b).sender m.flight

abbrev pub SentIn : ℕ → ℕ → ℕ → Net → Type 0
SentIn n a b m = IsSent m.reloads n a b (m.ways a b).sender m.flight

flying-on : (reloads : ℕ → ℕ) (from to : ℕ) (k : PacketKind) (xs ys : List Packet) → IsFlying reloads from to k xs
    → IsFlying reloads from to k (xs ++ ys)
flying-on reloads from to k xs ys h = (h.0, among-left _ xs ys h.1, h.2, h.3, h.4, h.5)

-- how a way goes on, for the piece n
abbrev pub WayOn : ℕ → Way → Way → Type 0
WayOn n w v = n ≤ w.sender.numbered → (n ≤ v.sender.numbered) × (IsEnded n w.sender → IsEnded n v.sender)
    × (HasWaited n w.sender → HasWaited n v.sender)

way-same : (n : ℕ) (w : Way) → WayOn n w w
way-same n w low = (low, λ e. e, λ e. e)

way-pushing : (n : ℕ) (m : List ℤ) (w : Way) → WayOn n w (way_after_push m w)
way-pushing n m w low = let o = on-pushed n m w.sender low in (omega (arith, low, numbered-pushed m w.sender), o.0, o.1)

way-telling : (n number : ℕ) (w : Way) → WayOn n w (way_after_acknowledgement number w)
way-telling n number w low =
    let o = on-told n number w.sender low in (omega (arith, low, numbered-acknowledged number w.sender), o.0, o.1)

way-ticking : (n : ℕ) (w : Way) → WayOn n w (way_after_tick w)
way-ticking n w low = let o = on-ticked n w.sender low in (omega (arith, low, numbered-ticked w.sender), o.0, o.1)

way-put : (n x y : ℕ) (v : Way) (f : ℕ → ℕ → Way) → WayOn n (f x y) v → (a b : ℕ) → WayOn n (f a b) (put x y v f a b)
way-put n x y v f h a b = put-all (λ a b w. WayOn n (f a b) w) x y v f h (λ a b. way-same n (f a b)) a b

way-by : (n x y : ℕ) (k : PacketKind) (f : ℕ → ℕ → Way) (a b : ℕ) → WayOn n (f a b) (ways_by x y k f a b)
way-by n x y kind.Alive f a b = way-same n (f a b)
way-by n x y (kind.Piece number piece) f a b =
    way-put n y x (way_after_piece number piece (f y x)) f (λ low. (low, λ e. e, λ e. e)) a b
way-by n x y (kind.Acknowledgement number) f a b =
    way-put n x y (way_after_acknowledgement number (f x y)) f (way-telling n number (f x y)) a b

-- While packets pass

-- what holds between a net and a later one, where these packets came between
pub record IsMid (n a b : ℕ) (l : Net) (came : List Packet) (m : Net) : Type 0 where
  pub whole : IsWhole m
  pub low : n ≤ (m.ways a b).sender.numbered
  pub here : Runs m a b
  pub there : Runs m b a
  pub reloads : m.reloads ≡ l.reloads
  pub acknowledgements : IsFlying m.reloads b a (kind.Acknowledgement n) came → EndedIn n a b m
  pub pieces : (piece : Piece) → IsFlying m.reloads a b (kind.Piece n piece) came → AnsweredIn n a b m
  pub ended : EndedIn n a b l → EndedIn n a b m
  pub waited : WaitedIn n a b l → WaitedIn n a b m
  pub answered : AnsweredIn n a b l → AnsweredIn n a b m
  pub sent : SentIn n a b l → SentIn n a b m

answered-on : (reloads : ℕ → ℕ) (n a b : ℕ) (s t : Sending) (xs ys : List Packet) → (IsEnded n s → IsEnded n t)
    → IsAnswered reloads n a b s xs → IsAnswered reloads n a b t (xs ++ ys)
answered-on reloads n a b s t xs ys f (inl h) = inl (f h)
answered-on reloads n a b s t xs ys f (inr h) = inr (flying-on reloads b a (kind.Acknowledgement n) xs ys h)

sent-on : (reloads : ℕ → ℕ) (n a b : ℕ) (s t : Sending) (xs ys : List Packet) → (IsEnded n s → IsEnded n t)
    → IsSent reloads n a b s xs → IsSent reloads n a b t (xs ++ ys)
sent-on reloads n a b s t xs ys f (inl h) = inl (answered-on reloads n a b s t xs ys f h)
sent-on reloads n a b s t xs ys f (inr h) = inr (h.0, flying-on reloads a b (kind.Piece n h.0) xs ys h.1)

-- more packets are sent, and ways go on
mid-on : (n a b : ℕ) (l : Net) (came : List Packet) (m : Net) (e : ℕ → ℕ → End) (more : List Packet) (g : ℕ → ℕ → Way)
    → Goes m (record m { ends = e; flight = m.flight ++ more; ways = g })
    → ((c d : ℕ) → (e c d).down ≡ (m.ends c d).down) → WayOn n (m.ways a b) (g a b)
    → IsMid n a b l came m → IsMid n a b l came (record m { ends = e; flight = m.flight ++ more; ways = g })
mid-on n a b l came m e more g goes downs on h =
    let o = on h.low in
    let s = (m.ways a b).sender in
    let t = (g a b).sender in
    record {
      whole = whole-goes goes h.whole;
      low = o.0;
      here = (h.here.0, downs a b ∙ h.here.1);
      there = (h.there.0, downs b a ∙ h.there.1);
      reloads = h.reloads;
      acknowledgements = λ q. o.1 (h.acknowledgements q);
      pieces = λ piece q. answered-on m.reloads n a b s t m.flight more o.1 (h.pieces piece q);
      ended = λ q. o.1 (h.ended q);
      waited = λ q. o.2 (h.waited q);
      answered = λ q. answered-on m.reloads n a b s t m.flight more o.1 (h.answered q);
      sent = λ q. sent-on m.reloads n a b s t m.flight more o.1 (h.sent q);
    }

downs-put : (m : Net) (x y : ℕ) (e : End) → e.down ≡ (m.ends x y).down → (c d : ℕ)
    → (put x y e m.ends c d).down ≡ (m.ends c d).down
downs-put m x y e h c d = put-all (λ c d u. u.down ≡ (m.ends c d).down) x y e m.ends h (λ c d. refl) c d

-- a packet bears the present incarnations of two nodes
abbrev IsCurrentOf : Net → ℕ → ℕ → Packet → Type 0
IsCurrentOf m from to p = p.incarnation ≡ incarnation_of m.reloads from to

-- one more packet came
mid-came : (n a b : ℕ) (l : Net) (came : List Packet) (p : Packet) (m : Net)
    → (p.kind ≡ kind.Acknowledgement n → p.sender ≡ b → p.receiver ≡ a → IsCurrentOf m b a p → EndedIn n a b m)
    → ((piece : Piece) → p.kind ≡ kind.Piece n piece → p.sender ≡ a → p.receiver ≡ b → IsCurrentOf m a b p
    → AnsweredIn n a b m)
    → IsMid n a b l came m → IsMid n a b l (p ∷ came) m
mid-came n a b l came p m r o h = record {
  whole = h.whole;
  low = h.low;
  here = h.here;
  there = h.there;
  reloads = h.reloads;
  acknowledgements = λ q. by_acknowledgement q.0 q.1 q.2 q.3 q.4 q.5;
  pieces = λ piece q. by_piece piece q.0 q.1 q.2 q.3 q.4 q.5;
  ended = h.ended;
  waited = h.waited;
  answered = h.answered;
  sent = h.sent;
}
  where
    by_acknowledgement : (q : Packet) → (q ≡ p) ⊎ IsAmong q came → q.kind ≡ kind.Acknowledgement n → q.sender ≡ b
        → q.receiver ≡ a → IsCurrentOf m b a q → EndedIn n a b m
    by_acknowledgement q (inl same) k s t now =
        subst (λ (p : Packet). (p.kind ≡ kind.Acknowledgement n → p.sender ≡ b → p.receiver ≡ a → IsCurrentOf m b a p
        → EndedIn n a b m)) (sym same) r k s t now
    by_acknowledgement q (inr i) k s t now = h.acknowledgements (q, i, k, s, t, now)

    by_piece : (piece : Piece) (q : Packet) → (q ≡ p) ⊎ IsAmong q came → q.kind ≡ kind.Piece n piece → q.sender ≡ a
        → q.receiver ≡ b → IsCurrentOf m a b q → AnsweredIn n a b m
    by_piece piece q (inl same) k s t now = subst
        (λ (p : Packet). (p.kind ≡ kind.Piece n piece → p.sender ≡ a → p.receiver ≡ b → IsCurrentOf m a b p
        → AnsweredIn n a b m)) (sym same) (o piece) k s t now
    by_piece piece q (inr i) k s t now = h.pieces piece (q, i, k, s, t, now)

-- packets that came leave
mid-bus : (n a b : ℕ) (l : Net) (came : List Packet) (m : Net) (flight : List Packet)
    → ((p : Packet) → IsAmong p flight → IsAmong p m.flight)
    → ((p : Packet) → IsAmong p m.flight → IsAmong p flight ⊎ IsAmong p came) → IsMid n a b l came m
    → IsMid n a b l came (record m { flight = flight })
mid-bus n a b l came m flight fewer stays h = record {
  whole = whole-goes (bus_changes flight fewer) h.whole;
  low = h.low;
  here = h.here;
  there = h.there;
  reloads = h.reloads;
  acknowledgements = h.acknowledgements;
  pieces = λ piece q. answered (h.pieces piece q);
  ended = h.ended;
  waited = h.waited;
  answered = λ x. answered (h.answered x);
  sent = λ x. sent (h.sent x);
}
  where
    by_acknowledgement : (q : Packet) → q.kind ≡ kind.Acknowledgement n → q.sender ≡ b → q.receiver ≡ a
        → IsCurrentOf m b a q → IsAmong q flight ⊎ IsAmong q came → AnsweredIn n a b (record m { flight = flight })
    by_acknowledgement q k s t now (inl x) = inr (q, x, k, s, t, now)
    by_acknowledgement q k s t now (inr x) = inl (h.acknowledgements (q, x, k, s, t, now))

    answered : AnsweredIn n a b m → AnsweredIn n a b (record m { flight = flight })
    answered (inl x) = inl x
    answered (inr x) = by_acknowledgement x.0 x.2 x.3 x.4 x.5 (stays x.0 x.1)

    by_piece : (piece : Piece) (q : Packet) → q.kind ≡ kind.Piece n piece → q.sender ≡ a → q.receiver ≡ b
        → IsCurrentOf m a b q → IsAmong q flight ⊎ IsAmong q came → SentIn n a b (record m { flight = flight })
    by_piece piece q k s t now (inl x) = inr (piece, (q, x, k, s, t, now))
    by_piece piece q k s t now (inr x) = inl (answered (h.pieces piece (q, x, k, s, t, now)))

    sent : SentIn n a b m → SentIn n a b (record m { flight = flight })
    sent (inl x) = inl (answered x)
    sent (inr x) = by_piece x.0 x.1.0 x.1.2 x.1.3 x.1.4 x.1.5 (stays x.1.0 x.1.1)

-- A packet comes

down-kind : (k : PacketKind) (e : End) → (after_kind k e).down ≡ e.down
down-kind kind.Alive e = refl
down-kind (kind.Piece number piece) e = refl
down-kind (kind.Acknowledgement number) e = refl

down-packet : (p : Packet) (e : End) → e.down ≡ false → (after_packet p e).down ≡ e.down
down-packet p e h = ap (λ (u : End). u.down) (when-up e (after_kind p.kind e) h) ∙ down-kind p.kind e

-- a piece that was numbered is kept once it has come
kept-at : (n : ℕ) (piece : Piece) (w : Way) → IsJoint w → n ≤ w.sender.numbered
    → is_kept n (kept n piece w.receiver) ≡ true
kept-at n piece w j low = go (is_next n w.receiver) refl
  where
    top : n ≤ w.receiver.kept + 1
    top = omega (arith, low, j.sending.numbered, j.acknowledged_is_kept, opened-few w.sender.queue)

    go : (b : Bool) → is_next n w.receiver ≡ b
        → is_kept n (if b then record { kept = w.receiver.kept + 1; part = words_with_piece piece w.receiver.part } else
        w.receiver) ≡ true
    go true is = le-leb n (w.receiver.kept + 1) top
    go false is = le-leb n w.receiver.kept (grind (arith, top, eqb-false n (w.receiver.kept + 1) is))

mid-packet : (n a b : ℕ) (l : Net) (came : List Packet) (m : Net) (p : Packet) → IsAmong p m.flight
    → IsCurrent m.reloads p → Runs m p.receiver p.sender → IsMid n a b l came m
    → IsMid n a b l (p ∷ came) (arrived_net p.receiver p.sender p m)
mid-packet n a b l came m p i current r h = mid-came n a b l came p (arrived_net p.receiver p.sender p m) ended answered
    (mid-on n a b l came m (put p.receiver p.sender (after_packet p e) m.ends) (option_to_list (sent_by_packet p e))
    (ways_by p.receiver p.sender p.kind m.ways)
    (arrives p i current r) (downs-put m p.receiver p.sender (after_packet p e) (down-packet p e r.1))
    (way-by n p.receiver p.sender p.kind m.ways a b) h)
  where
    e : End
    e = m.ends p.receiver p.sender

    ended : p.kind ≡ kind.Acknowledgement n → p.sender ≡ b → p.receiver ≡ a → IsCurrentOf m b a p
        → EndedIn n a b (arrived_net p.receiver p.sender p m)
    ended k s t now =
        let own : IsEnded n (put a b (way_after_acknowledgement n (m.ways a b)) m.ways a b).sender =
        subst (λ (u : Way). IsEnded n u.sender) (sym (put-same a b (way_after_acknowledgement n (m.ways a b)) m.ways))
        (hit n (m.ways a b).sender h.low) in
        subst (λ k. IsEnded n (ways_by p.receiver p.sender k m.ways a b).sender) (sym k)
        (subst (λ c. IsEnded n (ways_by c p.sender (kind.Acknowledgement n) m.ways a b).sender) (sym t)
        (subst (λ d. IsEnded n (ways_by a d (kind.Acknowledgement n) m.ways a b).sender) (sym s) own))

    answered : (piece : Piece) → p.kind ≡ kind.Piece n piece → p.sender ≡ a → p.receiver ≡ b → IsCurrentOf m a b p
        → AnsweredIn n a b (arrived_net p.receiver p.sender p m)
    answered piece k s t now =
        let own : Packet = packet_of e (kind.Acknowledgement n) in
        let names = h.whole.named p.receiver p.sender in
        let tie : e.receiving ≡ (m.ways a b).receiver =
        (h.whole.tied p.receiver p.sender r).receiving ∙ (λ i. (m.ways (s i) (t i)).receiver) in
        let is : is_kept n (kept n piece e.receiving) ≡ true =
        ap (λ r. is_kept n (kept n piece r)) tie ∙ kept-at n piece (m.ways a b) (h.whole.joint a b) h.low in
        let sent_is : sent_by_packet p e ≡ Some own = when-up None (sent_by_kind p.kind e) r.1
        ∙ ap (λ k. sent_by_kind k e) k ∙ ap (λ b. if b then Some own else None) is in
        inr (subst (λ s. IsFlying m.reloads b a (kind.Acknowledgement n) (m.flight ++ option_to_list s)) (sym sent_is) (
          own,
          among-right _ m.flight (own ∷ []) (inl refl),
          refl,
          names.here ∙ t,
          names.there ∙ s,
          names.incarnation ∙ (λ i. incarnation_of m.reloads (t i) (s i)),
        ))

mid-tick : (n a b : ℕ) (l : Net) (came : List Packet) (m : Net) (x y : ℕ) → Runs m x y → IsMid n a b l came m
    → IsMid n a b l came (ticked_net x y m)
mid-tick n a b l came m x y r h = mid-on n a b l came m (put x y (after_tick (m.ends x y)) m.ends)
    (option_to_list (option_map packet_in (sent_by_tick (m.ends x y))))
    (put x y (way_after_tick (m.ways x y)) m.ways) (ticks x y r)
    (downs-put m x y (after_tick (m.ends x y))
    (ap (λ (u : End). u.down) (when-up (m.ends x y)
    (record (m.ends x y) { sending = after_tick_of (m.ends x y).sending }) r.1)))
    (way-put n x y (way_after_tick (m.ways x y)) m.ways (way-ticking n (m.ways x y)) a b) h

put-one-other : (x a : ℕ) (f : ℕ → Bool) → x ≢ a → f a ≡ false → put_one x true f a ≡ false
put-one-other x a f other h = go (a == x) refl
  where
    go : (t : Bool) → (a == x) ≡ t → (if t then true else f a) ≡ false
    go true e = absurd (other (sym (eqb-true a x e)))
    go false e = h

pub mid-passes : (n a b : ℕ) {l : Net} {came : List Packet} {m : Net} → IsWhole l → n ≤ (l.ways a b).sender.numbered
    → Runs l a b → Runs l b a → Passes a b l came m → IsMid n a b l came m
mid-passes n a b w low here there nothing = record {
  whole = w;
  low = low;
  here = here;
  there = there;
  reloads = refl;
  acknowledgements = λ q. absurd q.1;
  pieces = λ piece q. absurd q.1;
  ended = λ x. x;
  waited = λ x. x;
  answered = λ x. x;
  sent = λ x. x;
}
mid-passes n a b {l = l} w low here there (by_push {came = came} {m = m} x y message some r q) =
    mid-on n a b l came m (put x y (after_push message (m.ends x y)) m.ends)
    (option_to_list (sent_by_push message (m.ends x y))) (put x y (way_after_push message (m.ways x y)) m.ways)
    (pushes x y message some r) (downs-put m x y (after_push message (m.ends x y))
    (ap (λ (u : End). u.down) (when-up (m.ends x y)
    (record (m.ends x y) { sending = after_push_of message (m.ends x y).sending }) r.1)))
    (way-put n x y (way_after_push message (m.ways x y)) m.ways (way-pushing n message (m.ways x y)) a b)
    (mid-passes n a b w low here there q)
mid-passes n a b {l = l} w low here there (by_packet {came = came} {m = m} p i current r q) =
    mid-packet n a b l came m p i current r (mid-passes n a b w low here there q)
mid-passes n a b {l = l} w low here there (by_drop {came = came} {m = m} p gone q) =
    let h = mid-passes n a b w low here there q in
    mid-came n a b l came p m (λ k s t now. absurd
    (gone (now ∙ (λ i. incarnation_of m.reloads (sym s i) (sym t i)))
    (subst (λ c. Runs m c p.sender) (sym t) (subst (λ d. Runs m a d) (sym s) h.here))))
    (λ piece k s t now. absurd (gone (now ∙ (λ i. incarnation_of m.reloads (sym s i) (sym t i)))
    (subst (λ c. Runs m c p.sender) (sym t) (subst (λ d. Runs m b d) (sym s) h.there)))) h
mid-passes n a b {l = l} w low here there (by_tick {came = came} {m = m} x y r q) =
    mid-tick n a b l came m x y r (mid-passes n a b w low here there q)
mid-passes n a b {l = l} w low here there (by_alive {came = came} {m = m} x y r q) =
    mid-on n a b l came m m.ends (packet_of (m.ends x y) kind.Alive ∷ []) m.ways (lives x y r) (λ c d. refl)
    (way-same n (m.ways a b)) (mid-passes n a b w low here there q)
mid-passes n a b {l = l} w low here there (by_bus {came = came} {m = m} flight fewer stays q) =
    mid-bus n a b l came m flight fewer stays (mid-passes n a b w low here there q)
mid-passes n a b {l = l} w low here there (by_stop {came = came} {m = m} x na nb q) =
    let h = mid-passes n a b w low here there q in
    record {
      whole = whole-goes (stops x) h.whole;
      low = h.low;
      here = (put-one-other x a m.stopped na h.here.0, h.here.1);
      there = (put-one-other x b m.stopped nb h.there.0, h.there.1);
      reloads = h.reloads;
      acknowledgements = h.acknowledgements;
      pieces = h.pieces;
      ended = h.ended;
      waited = h.waited;
      answered = h.answered;
      sent = h.sent;
    }
mid-passes n a b {l = l} w low here there (by_mark {came = came} {m = m} x y gone q) =
    let h = mid-passes n a b w low here there q in
    let downs : (c d : ℕ) → m.stopped d ≡ false
    → (put x y (after_down (m.ends x y)) m.ends c d).down ≡ (m.ends c d).down =
    put-all (λ c d u. m.stopped d ≡ false → u.down ≡ (m.ends c d).down) x y (after_down (m.ends x y)) m.ends
    (λ live. absurd cc) (λ c d live. refl) in
    record {
      whole = whole-goes (marks x y gone) h.whole;
      low = h.low;
      here = (h.here.0, downs a b h.there.0 ∙ h.here.1);
      there = (h.there.0, downs b a h.here.0 ∙ h.there.1);
      reloads = h.reloads;
      acknowledgements = h.acknowledgements;
      pieces = h.pieces;
      ended = h.ended;
      waited = h.waited;
      answered = h.answered;
      sent = h.sent;
    }

-- A round

-- a piece that has waited is sent again
tick-sends : (n : ℕ) (e : End) (w : Way) → e.down ≡ false → e.sending ≡ w.sender → IsJoint w → n ≤ w.sender.numbered
    → HasWaited n w.sender
    → IsEnded n (after_tick_of w.sender) ⊎ ((piece : Piece)
    × (option_map packet_in (sent_by_tick e) ≡ Some (packet_of e (kind.Piece n piece))))
tick-sends n e w up tie j low k =
    go w.sender.queue w.sender.place w.sender.numbered w.sender.waited w.sender.resend_bus tie j.sending.place low k
  where
    end : Sending → End
    end s = record e { sending = s }

    go : (queue : List (List ℤ)) (place numbered : ℕ) (waited : Bool) (resend_bus : BusName)
        → e.sending ≡ record {
          queue = queue;
          place = place;
          numbered = numbered;
          waited = waited;
          resend_bus = resend_bus;
        } → IsWithin place queue → n ≤ numbered
        → HasWaited n (record {
          queue = queue;
          place = place;
          numbered = numbered;
          waited = waited;
          resend_bus = resend_bus;
        })
        → IsEnded n (after_tick_of (record {
          queue = queue;
          place = place;
          numbered = numbered;
          waited = waited;
          resend_bus = resend_bus;
        }))
        ⊎ ((piece : Piece) × (option_map packet_in (sent_by_tick e) ≡ Some (packet_of e (kind.Piece n piece))))
    go [] place numbered waited resend_bus tie within low k = inl (omega (arith, low))
    go (q ∷ queue) place numbered false resend_bus tie within low (inl x) = inl x
    go (q ∷ queue) place numbered false resend_bus tie within low (inr x) = absurd cc
    go (q ∷ queue) place numbered true resend_bus tie within low k = by_number (nat_lt n numbered) refl
      where
        s : Sending
        s = record { queue = q ∷ queue; place = place; numbered = numbered; waited = true; resend_bus = resend_bus }

        piece : Piece
        piece = first_piece (drop (10 * place) q)

        cut : piece_at place q ≡ Some piece
        cut = rw (lt-ltb (10 * place) (length q) within) refl

        sends : n ≡ numbered → option_map packet_in (sent_by_tick e) ≡ Some (packet_of e (kind.Piece n piece))
        sends same = ap (option_map packet_in) (when-up None (if is_sent_again e.sending then again else None) up)
            ∙ ap (λ (s : Sending). option_map packet_in
            (if is_sent_again s then option_map (λ packet. record { bus = s.resend_bus; packet = packet })
            (packet_outstanding (end s)) else None)) tie
            ∙ ap (λ o. option_map packet_in (option_map (λ packet. record { bus = resend_bus; packet = packet })
            (option_map (λ piece. packet_of e (kind.Piece numbered piece)) o))) cut
            ∙ ap (λ number. Some (packet_of e (kind.Piece number piece))) (sym same)
          where
            again : Option Resent
            again = option_map (λ packet. record { bus = e.sending.resend_bus; packet = packet }) (packet_outstanding e)

        by_number : (b : Bool) → nat_lt n numbered ≡ b
            → IsEnded n (after_tick_of s) ⊎ ((piece : Piece)
            × (option_map packet_in (sent_by_tick e) ≡ Some (packet_of e (kind.Piece n piece))))
        by_number true is = inl (omega (arith, ltb-true _ _ is))
        by_number false is = inr (piece, sends (omega (arith, low, ltb-false _ _ is)))

net-sends : (n a b : ℕ) (m : Net) → IsWhole m → n ≤ (m.ways a b).sender.numbered → Runs m a b → WaitedIn n a b m
    → SentIn n a b (ticked_net a b m)
net-sends n a b m w low r k = go (tick-sends n (m.ends a b) (m.ways a b) r.1 (w.tied a b r).sending (w.joint a b) low k)
  where
    e : End
    e = m.ends a b

    go : IsEnded n (after_tick_of (m.ways a b).sender)
        ⊎ ((piece : Piece) × (option_map packet_in (sent_by_tick e) ≡ Some (packet_of e (kind.Piece n piece))))
        → SentIn n a b (ticked_net a b m)
    go (inl x) =
        inl (inl (subst (λ (u : Way). IsEnded n u.sender) (sym (put-same a b (way_after_tick (m.ways a b)) m.ways)) x))
    go (inr x) = inr (
      x.0,
      subst (λ s. IsFlying m.reloads a b (kind.Piece n x.0) (m.flight ++ option_to_list s)) (sym x.1) (
        packet_of e (kind.Piece n x.0),
        among-right _ m.flight (packet_of e (kind.Piece n x.0) ∷ []) (inl refl),
        refl,
        (w.named a b).here,
        (w.named a b).there,
        (w.named a b).incarnation,
      ),
    )

pub brought-on : (n a b : ℕ) {l next : Net} → IsRound a b l next → IsWhole l → Runs l a b → Runs l b a
    → n ≤ (l.ends a b).sending.numbered → IsBroughtOn n a b l next
brought-on n a b {l = l} {next = next} r w here there numbered = record {
  whole = two.whole;
  here = two.here;
  there = two.there;
  numbered = subst (λ (s : Sending). n ≤ s.numbered) (sym after) two.low;
  waited = subst (HasWaited n) (sym after) (two.waited ticked_once);
  sent = λ k. subst (λ s. IsSent next.reloads n a b s next.flight) (sym after)
      (two.sent (net-sends n a b r.middle one.whole one.low one.here (one.waited (subst (HasWaited n) before k))));
  answered = λ k. subst (λ s. IsAnswered next.reloads n a b s next.flight) (sym after)
      (answered (subst (λ s. IsSent l.reloads n a b s l.flight) before k));
  ended = λ k. subst (IsEnded n) (sym after) (ended (subst (λ s. IsAnswered l.reloads n a b s l.flight) before k));
}
  where
    before : (l.ends a b).sending ≡ (l.ways a b).sender
    before = (w.tied a b here).sending

    one : IsMid n a b l r.came r.middle
    one = mid-passes n a b w (subst (λ (s : Sending). n ≤ s.numbered) before numbered) here there r.first

    middle : IsMid n a b l r.came (ticked_net a b r.middle)
    middle = mid-tick n a b l r.came r.middle a b one.here one

    two : IsMid n a b (ticked_net a b r.middle) r.later next
    two = mid-passes n a b middle.whole middle.low middle.here middle.there r.rest

    -- no node is loaded again in a round
    still : (c d : ℕ) → incarnation_of l.reloads c d ≡ incarnation_of r.middle.reloads c d
    still c d = λ i. incarnation_of (sym one.reloads i) c d

    after : (next.ends a b).sending ≡ (next.ways a b).sender
    after = (two.whole.tied a b two.here).sending

    ticked_once : WaitedIn n a b (ticked_net a b r.middle)
    ticked_once = subst (λ (u : Way). HasWaited n u.sender)
        (sym (put-same a b (way_after_tick (r.middle.ways a b)) r.middle.ways))
        (ticked-cases n (r.middle.ways a b).sender one.low).1

    answered : SentIn n a b l → AnsweredIn n a b next
    answered (inl x) = two.answered (middle.answered x)
    answered (inr x) = two.answered (middle.pieces x.0
        (x.1.0, r.all x.1.0 x.1.1, x.1.2, x.1.3, x.1.4, x.1.5 ∙ still a b))

    ended : AnsweredIn n a b l → EndedIn n a b next
    ended (inl x) = two.ended (middle.ended x)
    ended (inr x) = two.ended (middle.acknowledgements (x.0, r.all x.0 x.1, x.2, x.3, x.4, x.5 ∙ still b a))
