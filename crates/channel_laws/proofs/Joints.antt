-- What happens at either end keeps both ends of a way joint.
use Rattle.std.proofs.Common.{◌≡◌, ◌<◌, ◌≤◌, ◌+◌, ◌*◌, ℕ, ℤ, Bool, true, false, List, [], ◌∷◌, ◌++◌, length, take, drop}
use Rattle.std.proofs.Common.{refl, sym, subst, ap, ◌∙◌, arith}
use Rattle.std.proofs.lemmas.List.{append-nil, append_assoc}
use Rattle.std.proofs.lemmas.Bool.{eqb-true, ltb-true, ltb-false}
use Rattle.std.specs.Prelude.{None, ◌==◌, nat_lt, nat_le, if◌then◌else◌}
use Rattle.std.specs.Option.{option_to_list}
use Rattle.schedule.specs.declared.bus_name.BusName.{BusName}
use Rattle.packet_words.specs.declared.piece.Piece.{Piece}
use Rattle.packet_words.specs.Pieces.{pieces, words_with_piece, message_with_piece, first_piece}
use Rattle.link_control.specs.Ends.{Sending, Receiving, numbered_at, new_sending, after_push_of, after_tick_of}
use Rattle.link_control.specs.Ends.{moved_on}
use Rattle.link_control.specs.Ends.{is_next}
use Rattle.channel_laws.specs.Way.{Way, AtSender, AtReceiver, IsJoint, IsCut, IsPieceOf, IsWithin, quiet_way}
use Rattle.channel_laws.specs.Way.{way_after_push}
use Rattle.channel_laws.specs.Way.{way_after_piece, way_after_acknowledgement, way_after_tick, total, first_of, Filled}
use Rattle.channel_laws.specs.Way.{opened}
use Rattle.channel_laws.proofs.Places.{total-append, filled-more, filled-rest, within-more, none-within, part-more}
use Rattle.channel_laws.proofs.Places.{same-place, cut-is, part-and_piece, whole-at_last, count-at_last, more-after}

pub joint-quiet : IsJoint quiet_way
joint-quiet = record {
  filled = tt;
  acknowledged = 0;
  sending = record { done = []; sent = refl; place = refl; count = refl; numbered = refl };
  receiving = record { rest = []; come = refl; some = 0; in_part = refl; count = refl; part = refl };
  acknowledged_is_kept = omega arith;
  kept_is_numbered = omega arith;
}

pub opened-few : (queue : List (List ℤ)) → opened queue ≤ 1
opened-few [] = omega arith
opened-few (q ∷ queue) = omega arith

-- A message is pushed

pub numbered-pushed : (m : List ℤ) (s : Sending) → s.numbered ≤ (after_push_of m s).numbered
numbered-pushed m s = go s.queue s.place s.numbered s.waited s.resend_bus
  where
    go : (queue : List (List ℤ)) (place numbered : ℕ) (waited : Bool) (resend_bus : BusName)
        → numbered ≤ (after_push_of m (record {
          queue = queue;
          place = place;
          numbered = numbered;
          waited = waited;
          resend_bus = resend_bus;
        })).numbered
    go [] place numbered waited resend_bus = omega arith
    go (q ∷ queue) place numbered waited resend_bus = omega arith

sender-pushed : (pushes : List (List ℤ)) (a : ℕ) (m : List ℤ) (s : Sending) → 0 < length m → AtSender pushes a s
    → AtSender (pushes ++ m ∷ []) a (after_push_of m s)
sender-pushed pushes a m s n h = go s.queue s.place s.numbered s.waited s.resend_bus h
  where
    go : (queue : List (List ℤ)) (place numbered : ℕ) (waited : Bool) (resend_bus : BusName)
        → AtSender pushes a (record {
          queue = queue;
          place = place;
          numbered = numbered;
          waited = waited;
          resend_bus = resend_bus;
        })
        → AtSender (pushes ++ m ∷ []) a (after_push_of m
        (record { queue = queue; place = place; numbered = numbered; waited = waited; resend_bus = resend_bus }))
    go [] place numbered waited resend_bus h = record {
      done = h.done;
      sent = ap (λ xs. xs ++ m ∷ []) (h.sent ∙ append-nil h.done);
      place = omega (arith, n);
      count = omega (arith, h.count, h.place);
      numbered = omega (arith, h.numbered);
    }
    go (q ∷ queue) place numbered waited resend_bus h = record {
      done = h.done;
      sent = ap (λ xs. xs ++ m ∷ []) h.sent ∙ append_assoc h.done (q ∷ queue) (m ∷ []);
      place = h.place;
      count = h.count;
      numbered = h.numbered;
    }

receiver-pushed : (pushes out : List (List ℤ)) (m : List ℤ) (r : Receiving) → 0 < length m → AtReceiver pushes out r
    → AtReceiver (pushes ++ m ∷ []) out r
receiver-pushed pushes out m r n h = record {
  rest = h.rest ++ m ∷ [];
  come = ap (λ xs. xs ++ m ∷ []) h.come ∙ append_assoc out h.rest (m ∷ []);
  some = h.some;
  in_part = within-more h.some h.rest m n h.in_part;
  count = h.count;
  part = h.part ∙ part-more h.some h.rest m h.in_part;
}

pub joint-pushing : (m : List ℤ) (w : Way) → 0 < length m → IsJoint w → IsJoint (way_after_push m w)
joint-pushing m w n j =
    let sending = sender-pushed w.pushes j.acknowledged m w.sender n j.sending in
    record {
      filled = filled-more w.pushes m n j.filled;
      acknowledged = j.acknowledged;
      sending = sending;
      receiving = receiver-pushed w.pushes w.out m w.receiver n j.receiving;
      acknowledged_is_kept = j.acknowledged_is_kept;
      kept_is_numbered = omega (arith, j.kept_is_numbered, numbered-pushed m w.sender);
    }

-- An acknowledgement comes

sender-begun : (pushes : List (List ℤ)) (a : ℕ) (done queue : List (List ℤ)) (numbered : ℕ) → Filled pushes
    → pushes ≡ done ++ queue → a ≡ total done → numbered ≡ a
    → AtSender pushes a (new_sending queue numbered)
sender-begun pushes a done [] numbered f sent count n =
    record { done = done; sent = sent; place = refl; count = omega (arith, count); numbered = omega (arith, n) }
sender-begun pushes a done (q ∷ queue) numbered f sent count n = record {
  done = done;
  sent = sent;
  place = none-within (q ∷ queue) (filled-rest done (q ∷ queue) (subst Filled sent f));
  count = omega (arith, count);
  numbered = omega (arith, n);
}

sender-moved : (pushes : List (List ℤ)) (a : ℕ) (q : List ℤ) (queue : List (List ℤ)) (place numbered : ℕ)
    (waited : Bool) (resend_bus : BusName) → Filled pushes
    → AtSender pushes a (record {
      queue = q ∷ queue;
      place = place;
      numbered = numbered;
      waited = waited;
      resend_bus = resend_bus;
    })
    → AtSender pushes (a + 1) (moved_on (q ∷ queue)
    (record { queue = q ∷ queue; place = place; numbered = numbered; waited = waited; resend_bus = resend_bus }))
sender-moved pushes a q queue place numbered waited resend_bus f h = by_more (nat_lt (10 * (place + 1)) (length q)) refl
  where
    by_more : (b : Bool) → nat_lt (10 * (place + 1)) (length q) ≡ b
        → AtSender pushes (a + 1)
        (if b then numbered_at (place + 1) (q ∷ queue) numbered else new_sending queue numbered)
    by_more true is = record {
      done = h.done;
      sent = h.sent;
      place = ltb-true _ _ is;
      count = omega (arith, h.count);
      numbered = omega (arith, h.numbered);
    }
    by_more false is = sender-begun pushes (a + 1) (h.done ++ q ∷ []) queue numbered f
        (h.sent ∙ sym (append_assoc h.done (q ∷ []) queue))
        (omega (arith, h.count, total-append h.done (q ∷ []), h.place, ltb-false _ _ is)) (omega (arith, h.numbered))

pub joint-telling : (number : ℕ) (w : Way) → number ≤ w.receiver.kept → IsJoint w
    → IsJoint (way_after_acknowledgement number w)
joint-telling number w told j =
    go w.sender.queue w.sender.place w.sender.numbered w.sender.waited w.sender.resend_bus j.sending j.kept_is_numbered
  where
    way : Sending → Way
    way s = record w { sender = s }

    ended : (q : List ℤ) (queue : List (List ℤ)) (place numbered : ℕ) (waited : Bool) (resend_bus : BusName) (b : Bool)
        → (number == numbered) ≡ b
        → AtSender w.pushes j.acknowledged (record
        { queue = q ∷ queue; place = place; numbered = numbered; waited = waited; resend_bus = resend_bus })
        → w.receiver.kept ≤ numbered
        → IsJoint (way (if b then moved_on (q ∷ queue)
        (record { queue = q ∷ queue; place = place; numbered = numbered; waited = waited; resend_bus = resend_bus })
        else record {
          queue = q ∷ queue;
          place = place;
          numbered = numbered;
          waited = waited;
          resend_bus = resend_bus;
        }))
    ended q queue place numbered waited resend_bus true is h low =
        let sending = sender-moved w.pushes j.acknowledged q queue place numbered waited resend_bus j.filled h in
        record {
          filled = j.filled;
          acknowledged = j.acknowledged + 1;
          sending = sending;
          receiving = j.receiving;
          acknowledged_is_kept = omega (arith, told, eqb-true _ _ is, h.numbered);
          kept_is_numbered = omega (arith, low, h.numbered, sending.numbered);
        }
    ended q queue place numbered waited resend_bus false is h low = record {
      filled = j.filled;
      acknowledged = j.acknowledged;
      sending = h;
      receiving = j.receiving;
      acknowledged_is_kept = j.acknowledged_is_kept;
      kept_is_numbered = low;
    }

    go : (queue : List (List ℤ)) (place numbered : ℕ) (waited : Bool) (resend_bus : BusName)
        → AtSender w.pushes j.acknowledged (record
        { queue = queue; place = place; numbered = numbered; waited = waited; resend_bus = resend_bus })
        → w.receiver.kept ≤ numbered
        → IsJoint (way_after_acknowledgement number (way (record {
          queue = queue;
          place = place;
          numbered = numbered;
          waited = waited;
          resend_bus = resend_bus;
        })))
    go [] place numbered waited resend_bus h low = record {
      filled = j.filled;
      acknowledged = j.acknowledged;
      sending = h;
      receiving = j.receiving;
      acknowledged_is_kept = j.acknowledged_is_kept;
      kept_is_numbered = low;
    }
    go (q ∷ queue) place numbered waited resend_bus h low =
        ended q queue place numbered waited resend_bus (number == numbered) refl h low

-- The sender's node ticks

-- a tick leaves which piece is outstanding
pub same-piece : {A : Type 0} (f : List (List ℤ) → ℕ → ℕ → A) (s : Sending)
    → f (after_tick_of s).queue (after_tick_of s).place (after_tick_of s).numbered ≡ f s.queue s.place s.numbered
same-piece {A = A} f s = go s.queue s.place s.numbered s.waited s.resend_bus
  where
    go : (queue : List (List ℤ)) (place numbered : ℕ) (waited : Bool) (resend_bus : BusName)
        → f (after_tick_of (record {
          queue = queue;
          place = place;
          numbered = numbered;
          waited = waited;
          resend_bus = resend_bus;
        })).queue
        (after_tick_of (record {
          queue = queue;
          place = place;
          numbered = numbered;
          waited = waited;
          resend_bus = resend_bus;
        })).place
        (after_tick_of (record {
          queue = queue;
          place = place;
          numbered = numbered;
          waited = waited;
          resend_bus = resend_bus;
        })).numbered ≡ f queue place numbered
    go [] place numbered waited resend_bus = refl
    go (q ∷ queue) place numbered true resend_bus = refl
    go (q ∷ queue) place numbered false resend_bus = refl

sender-ticked : (pushes : List (List ℤ)) (a : ℕ) (s : Sending) → AtSender pushes a s
    → AtSender pushes a (after_tick_of s)
sender-ticked pushes a s h = go s.queue s.place s.numbered s.waited s.resend_bus h
  where
    go : (queue : List (List ℤ)) (place numbered : ℕ) (waited : Bool) (resend_bus : BusName)
        → AtSender pushes a (record {
          queue = queue;
          place = place;
          numbered = numbered;
          waited = waited;
          resend_bus = resend_bus;
        })
        → AtSender pushes a (after_tick_of (record
        { queue = queue; place = place; numbered = numbered; waited = waited; resend_bus = resend_bus }))
    go [] place numbered waited resend_bus h = h
    go (q ∷ queue) place numbered true resend_bus h =
        record { done = h.done; sent = h.sent; place = h.place; count = h.count; numbered = h.numbered }
    go (q ∷ queue) place numbered false resend_bus h =
        record { done = h.done; sent = h.sent; place = h.place; count = h.count; numbered = h.numbered }

pub joint-ticking : (w : Way) → IsJoint w → IsJoint (way_after_tick w)
joint-ticking w j = record {
  filled = j.filled;
  acknowledged = j.acknowledged;
  sending = sender-ticked w.pushes j.acknowledged w.sender j.sending;
  receiving = j.receiving;
  acknowledged_is_kept = j.acknowledged_is_kept;
  kept_is_numbered = omega (arith, j.kept_is_numbered, same-piece (λ queue place numbered. numbered) w.sender);
}

-- A piece comes

pub joint-coming : (number : ℕ) (piece : Piece) (w : Way) → IsPieceOf w number piece → IsJoint w
    → IsJoint (way_after_piece number piece w)
joint-coming number piece w o j =
    subst (λ p. IsJoint (way_after_piece number p w)) (sym (cut-is c.k c.message piece c.cut).1)
    (by_number (is_next number w.receiver) refl)
  where
    c : IsCut w.pushes number piece
    c = o.0

    h : AtReceiver w.pushes w.out w.receiver
    h = j.receiving

    left : List ℤ
    left = drop (10 * c.k) c.message

    within : 10 * c.k < length c.message
    within = (cut-is c.k c.message piece c.cut).0

    place : number ≡ w.receiver.kept + 1 → (h.rest ≡ c.message ∷ c.after) × (c.k ≡ h.some)
    place is = same-place c.before w.out c.message c.after h.rest c.k h.some (sym c.split ∙ h.come) within h.in_part
        (omega (arith, is, c.count, h.count))

    text : number ≡ w.receiver.kept + 1 → w.receiver.part ++ take 10 left ≡ take (10 * (c.k + 1)) c.message
    text is = ap (λ xs. xs ++ take 10 left)
        (h.part ∙ ap (λ xs. take (10 * h.some) (first_of xs)) (place is).0
        ∙ ap (λ n. take (10 * n) c.message) (sym (place is).1))
        ∙ part-and_piece c.k c.message

    by_last : number ≡ w.receiver.kept + 1 → (b : Bool) → nat_le (length left) 10 ≡ b
        → AtReceiver w.pushes (w.out ++ option_to_list
        (message_with_piece (record { last = b; words = take 10 left }) w.receiver.part))
        (record {
          kept = w.receiver.kept + 1;
          part =
              words_with_piece (record { last = b; words = take 10 left }) w.receiver.part;
        })
    by_last is true last =
        let message : w.receiver.part ++ take 10 left ≡ c.message = text is ∙ whole-at_last c.k c.message last in
        record {
          rest = c.after;
          come = h.come ∙ ap (λ xs. w.out ++ xs) ((place is).0 ∙ ap (λ m. m ∷ c.after) (sym message))
              ∙ sym (append_assoc w.out ((w.receiver.part ++ take 10 left) ∷ []) c.after);
          some = 0;
          in_part = none-within c.after (filled-rest c.before (c.message ∷ c.after) (subst Filled c.split j.filled)).1;
          count = omega (
            arith,
            h.count,
            (place is).1,
            total-append w.out ((w.receiver.part ++ take 10 left) ∷ []),
            ap pieces message,
            count-at_last c.k c.message within last,
          );
          part = refl;
        }
    by_last is false last = record {
      rest = h.rest;
      come = h.come ∙ ap (λ xs. xs ++ h.rest) (sym (append-nil w.out));
      some = h.some + 1;
      in_part = subst (IsWithin (h.some + 1)) (sym (place is).0)
          (omega (arith, (place is).1, more-after c.k c.message last));
      count = omega (arith, h.count, ap total (append-nil w.out));
      part = text is ∙ ap (λ n. take (10 * (n + 1)) c.message) (place is).1
          ∙ ap (λ xs. take (10 * (h.some + 1)) (first_of xs)) (sym (place is).0);
    }

    by_number : (b : Bool) → is_next number w.receiver ≡ b
        → IsJoint (record w {
          receiver = if b then record {
            kept = w.receiver.kept + 1;
            part = words_with_piece (first_piece left) w.receiver.part;
          }
              else w.receiver;
          out = w.out ++ option_to_list (if b then message_with_piece (first_piece left) w.receiver.part else None);
        })
    by_number true is = record {
      filled = j.filled;
      acknowledged = j.acknowledged;
      sending = j.sending;
      receiving = by_last (eqb-true _ _ is) (nat_le (length left) 10) refl;
      acknowledged_is_kept = omega (arith, j.acknowledged_is_kept);
      kept_is_numbered = omega (arith, eqb-true _ _ is, o.1);
    }
    by_number false is = subst (λ out. IsJoint (record w { out = out })) (sym (append-nil w.out)) j
