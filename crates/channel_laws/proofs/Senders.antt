-- How the outstanding piece of a sender's end goes on.
use Rattle.std.proofs.Common.{◌≡◌, ◌⊎◌, inl, inr, ◌≤◌, ◌+◌, ◌*◌, ℕ, ℤ, Bool, true, false, List, [], ◌∷◌, length, refl}
use Rattle.std.proofs.Common.{sym, subst, arith}
use Rattle.std.proofs.lemmas.Bool.{eqb-false, ltb-true, ltb-false}
use Rattle.std.specs.Prelude.{◌==◌, nat_lt, if◌then◌else◌}
use Rattle.schedule.specs.declared.bus_name.BusName.{BusName}
use Rattle.link_control.specs.Ends.{Sending, numbered_at, new_sending, after_push_of, after_acknowledgement, moved_on}
use Rattle.link_control.specs.Ends.{after_tick_of}
use Rattle.channel_laws.specs.Way.{opened, IsEnded}
use Rattle.channel_laws.specs.Rounds.{HasWaited}
use Rattle.channel_laws.proofs.Joints.{opened-few}

-- what holds of the piece n goes on to hold
abbrev pub GoesOn : ℕ → Sending → Sending → Type 0
GoesOn n s t = (IsEnded n s → IsEnded n t) × (HasWaited n s → HasWaited n t)

pub on-pushed : (n : ℕ) (m : List ℤ) (s : Sending) → n ≤ s.numbered → GoesOn n s (after_push_of m s)
on-pushed n m s low = go s.queue s.place s.numbered s.waited s.resend_bus low
  where
    go : (queue : List (List ℤ)) (place numbered : ℕ) (waited : Bool) (resend_bus : BusName) → n ≤ numbered
        → GoesOn n (record {
          queue = queue;
          place = place;
          numbered = numbered;
          waited = waited;
          resend_bus = resend_bus;
        })
        (after_push_of m (record {
          queue = queue;
          place = place;
          numbered = numbered;
          waited = waited;
          resend_bus = resend_bus;
        }))
    go [] place numbered waited resend_bus low = (λ e. omega (arith, low), λ e. inl (omega (arith, low)))
    go (q ∷ queue) place numbered waited resend_bus low = (λ e. e, λ e. e)

ended-begun : (n : ℕ) (queue : List (List ℤ)) (numbered : ℕ) → n ≤ numbered → IsEnded n (new_sending queue numbered)
ended-begun n [] numbered low = omega (arith, low)
ended-begun n (q ∷ queue) numbered low = omega (arith, low)

-- an acknowledgement ends the outstanding piece or changes nothing
told-cases : (n number : ℕ) (s : Sending) → n ≤ s.numbered
    → IsEnded n (after_acknowledgement number s)
    ⊎ ((after_acknowledgement number s ≡ s) × ((number ≡ s.numbered) → opened s.queue ≡ 0))
told-cases n number s low = go s.queue s.place s.numbered s.waited s.resend_bus low
  where
    moved : (q : List ℤ) (queue : List (List ℤ)) (place numbered : ℕ) (b : Bool) → n ≤ numbered
        → IsEnded n (if b then numbered_at (place + 1) (q ∷ queue) numbered else new_sending queue numbered)
    moved q queue place numbered true low = omega (arith, low)
    moved q queue place numbered false low = ended-begun n queue numbered low

    ended : (q : List ℤ) (queue : List (List ℤ)) (place numbered : ℕ) (waited : Bool) (resend_bus : BusName) (b : Bool)
        → (number == numbered) ≡ b → n ≤ numbered
        → IsEnded n (if b then moved_on (q ∷ queue)
        (record { queue = q ∷ queue; place = place; numbered = numbered; waited = waited; resend_bus = resend_bus })
        else record { queue = q ∷ queue; place = place; numbered = numbered; waited = waited; resend_bus = resend_bus })
        ⊎ (((if b then moved_on (q ∷ queue) (record
        { queue = q ∷ queue; place = place; numbered = numbered; waited = waited; resend_bus = resend_bus })
        else record { queue = q ∷ queue; place = place; numbered = numbered; waited = waited; resend_bus = resend_bus })
        ≡ record { queue = q ∷ queue; place = place; numbered = numbered; waited = waited; resend_bus = resend_bus })
        × ((number ≡ numbered) → opened (q ∷ queue) ≡ 0))
    ended q queue place numbered waited resend_bus true is low =
        inl (moved q queue place numbered (nat_lt (10 * (place + 1)) (length q)) low)
    ended q queue place numbered waited resend_bus false is low =
        inr (refl, λ e. absurd (eqb-false number numbered is e))

    go : (queue : List (List ℤ)) (place numbered : ℕ) (waited : Bool) (resend_bus : BusName) → n ≤ numbered
        → IsEnded n (after_acknowledgement number
        (record { queue = queue; place = place; numbered = numbered; waited = waited; resend_bus = resend_bus }))
        ⊎ ((after_acknowledgement number (record
        { queue = queue; place = place; numbered = numbered; waited = waited; resend_bus = resend_bus })
        ≡ record { queue = queue; place = place; numbered = numbered; waited = waited; resend_bus = resend_bus })
        × ((number ≡ numbered) → opened queue ≡ 0))
    go [] place numbered waited resend_bus low = inr (refl, λ e. refl)
    go (q ∷ queue) place numbered waited resend_bus low =
        ended q queue place numbered waited resend_bus (number == numbered) refl low

pub on-told : (n number : ℕ) (s : Sending) → n ≤ s.numbered → GoesOn n s (after_acknowledgement number s)
on-told n number s low = go (told-cases n number s low)
  where
    go : IsEnded n (after_acknowledgement number s)
        ⊎ ((after_acknowledgement number s ≡ s) × ((number ≡ s.numbered) → opened s.queue ≡ 0))
        → GoesOn n s (after_acknowledgement number s)
    go (inl h) = (λ e. h, λ e. inl h)
    go (inr h) = (λ e. subst (IsEnded n) (sym h.0) e, λ e. subst (HasWaited n) (sym h.0) e)

-- the acknowledgement of the piece itself
pub hit : (n : ℕ) (s : Sending) → n ≤ s.numbered → IsEnded n (after_acknowledgement n s)
hit n s low = go (told-cases n n s low) (nat_lt n s.numbered) refl
  where
    go : IsEnded n (after_acknowledgement n s)
        ⊎ ((after_acknowledgement n s ≡ s) × ((n ≡ s.numbered) → opened s.queue ≡ 0)) → (b : Bool)
        → nat_lt n s.numbered ≡ b → IsEnded n (after_acknowledgement n s)
    go (inl h) b is = h
    go (inr h) true is = subst (IsEnded n) (sym h.0) (omega (arith, ltb-true _ _ is, opened-few s.queue))
    go (inr h) false is =
        let same : n ≡ s.numbered = omega (arith, low, ltb-false _ _ is) in
        subst (IsEnded n) (sym h.0) (omega (arith, h.1 same, low))

pub ticked-cases : (n : ℕ) (s : Sending) → n ≤ s.numbered
    → (IsEnded n s → IsEnded n (after_tick_of s)) × HasWaited n (after_tick_of s)
ticked-cases n s low = go s.queue s.place s.numbered s.waited s.resend_bus low
  where
    go : (queue : List (List ℤ)) (place numbered : ℕ) (waited : Bool) (resend_bus : BusName) → n ≤ numbered
        → (IsEnded n (record {
          queue = queue;
          place = place;
          numbered = numbered;
          waited = waited;
          resend_bus = resend_bus;
        })
        → IsEnded n (after_tick_of (record {
          queue = queue;
          place = place;
          numbered = numbered;
          waited = waited;
          resend_bus = resend_bus;
        })))
        × HasWaited n (after_tick_of (record {
          queue = queue;
          place = place;
          numbered = numbered;
          waited = waited;
          resend_bus = resend_bus;
        }))
    go [] place numbered waited resend_bus low = (λ e. e, inl (omega (arith, low)))
    go (q ∷ queue) place numbered true resend_bus low = (λ e. e, inr refl)
    go (q ∷ queue) place numbered false resend_bus low = (λ e. e, inr refl)

pub on-ticked : (n : ℕ) (s : Sending) → n ≤ s.numbered → GoesOn n s (after_tick_of s)
on-ticked n s low = ((ticked-cases n s low).0, λ e. (ticked-cases n s low).1)
