-- What was played of a schedule up to a count of events is told by the count, and nothing stops a schedule on the way.
use Rattle.std.proofs.Common.{◌≡◌, ◌<◌, ◌≤◌, ◌⊎◌, inl, inr, ℕ, ◌+◌, List, [], ◌∷◌, ◌++◌, length, Option, Some, refl}
use Rattle.std.proofs.Common.{sym, ap, ap₂, ◌∙◌, arith}
use Rattle.std.proofs.Math.Nat.{eq-or-lt_of_le}
use Rattle.std.proofs.lemmas.List.{length-append}
use Rattle.schedule.specs.declared.event.Event.{Event}
use Rattle.agendas.specs.Agendas.{Agenda, Plan}
use Rattle.machine_states.specs.States.{Makes, Played, Skips, State}
use Rattle.schedule_loop.specs.Ends.{Course, Plays, planned_in}
use Rattle.schedule_loop.specs.Plans.{seen_none, seen_on}
use Rattle.schedule_loop.specs.Rules.{IsPlayBy, Rules}

-- One event more

one-found : {A B C X : Type 0} → (f : A → B → C → Option X) (a b : A) (c d : B) (n m : C) (x y : X) → a ≡ b → c ≡ d
    → n ≡ m
    → f a c n ≡ Some x → f b d m ≡ Some y → x ≡ y
one-found f a b c d n m x y first second third one two = cc

makes-same : {Wires : Type 0} → (made same : Played Wires) (x y : State Wires) → made ≡ same → made ≡ Makes x
    → same ≡ Makes y → x ≡ y
makes-same made same x y is one two = cc

makes-not-skips : {Wires : Type 0} → (made same : Played Wires) (x : State Wires) → made ≡ same → made ≡ Makes x
    → same ≡ Skips → ⊥
makes-not-skips made same x is one two = absurd (cc)

longer : (events : List Event) (event : Event) → length (events ++ event ∷ []) ≡ length events + 1
longer events event = length-append events (event ∷ [])

module _ {Wires : Type 0} (rules : Rules Wires) where
  -- an event makes one state of a state
  one-next : (s t : State Wires) (event that : Event) (next after : State Wires) → s ≡ t → event ≡ that
      → IsPlayBy rules s event next → IsPlayBy rules t that after → next ≡ after
  one-next s t event that next after same is (inl one) (inl two) =
      makes-same (rules.play s event) (rules.play t that) next after (ap₂ rules.play same is) one two
  one-next s t event that next after same is (inl one) (inr two) =
      absurd (makes-not-skips (rules.play s event) (rules.play t that) next (ap₂ rules.play same is) one two.0)
  one-next s t event that next after same is (inr one) (inl two) =
      absurd (makes-not-skips (rules.play t that) (rules.play s event) after (sym (ap₂ rules.play same is)) two one.0)
  one-next s t event that next after same is (inr one) (inr two) = one.1 ∙ same ∙ sym two.1

-- Two that are as long

-- two have played the same events, the schedule stands the same then, and the state is the same
pub record AreSame {Wires : Type 0} (events others : List Event) (agenda other : Agenda)
    (s t : State Wires) : Type 0 where
  pub same_events : events ≡ others
  pub same_agenda : agenda ≡ other
  pub same_state : s ≡ t

module _ {Wires : Type 0} (rules : Rules Wires) (course : Course Wires) where
  -- the plan for the event after these
  abbrev pub plan_after : List Event → State Wires → Agenda → Option Plan
  plan_after events s agenda = planned_in rules course.sizes (length events) s agenda

  pub one-plan : (events others : List Event) (agenda other : Agenda) (s t : State Wires) (plan that : Plan)
      → AreSame events others agenda other s t → plan_after events s agenda ≡ Some plan
      → plan_after others t other ≡ Some that → plan ≡ that
  one-plan events others agenda other s t plan that same comes come =
      one-found plan_after events others s t agenda other plan that same.same_events same.same_state same.same_agenda
      comes come

  pub same-as-long : (events others : List Event) (agenda other : Agenda) (s t : State Wires)
      → Plays rules course events agenda s → Plays rules course others other t → length events ≡ length others
      → AreSame events others agenda other s t
  same-as-long _ _ _ _ _ _ seen_none seen_none long =
      record { same_events = refl; same_agenda = refl; same_state = refl }
  same-as-long _ _ _ _ _ _ seen_none (seen_on {events = others} that after come plays) long =
      let more = longer others that.event in absurd (omega (arith, long, more))
  same-as-long _ _ _ _ _ _ (seen_on {events = events} plan before comes playing) seen_none long =
      let more = longer events plan.event in absurd (omega (arith, long, more))
  same-as-long _ _ _ _ _ _ (seen_on {events = events} {agenda = agenda} {s = s} {next = next} plan before comes
      playing)
      (seen_on {events = others} {agenda = other} {s = t} {next = after} that earlier come plays) long =
      let more = longer events plan.event in
      let longs = longer others that.event in
      let same = same-as-long events others agenda other s t before earlier (omega (arith, long, more, longs)) in
      let is = one-plan events others agenda other s t plan that same comes come in
      record {
        same_events = ap₂ (λ (all : List Event) (one : Plan). all ++ one.event ∷ []) same.same_events is;
        same_agenda = ap (λ (one : Plan). one.agenda) is;
        same_state = one-next rules s t plan.event that.event next after same.same_state
            (ap (λ (one : Plan). one.event) is) playing plays;
      }

  -- A schedule that goes on past so many events

  pub record GoesOn (count : ℕ) : Type 0 where
    pub events : List Event
    pub agenda : Agenda
    pub s : State Wires
    pub next : State Wires
    pub plan : Plan
    pub long : length events ≡ count
    pub plays : Plays rules course events agenda s
    pub comes : plan_after events s agenda ≡ Some plan
    pub playing : IsPlayBy rules s plan.event next

  pub goes-on : (count : ℕ) (events : List Event) (agenda : Agenda) (s : State Wires)
      → Plays rules course events agenda s → count < length events → GoesOn count
  goes-on count _ _ _ seen_none less = absurd (omega (arith, less))
  goes-on count _ _ _ (seen_on {events = events} {agenda = agenda} {s = s} {next = next} plan before comes playing)
      less =
      by (λ fewer. goes-on count events agenda s before fewer) (eq-or-lt_of_le (few (longer events plan.event)))
    where
      few : length (events ++ plan.event ∷ []) ≡ length events + 1 → count ≤ length events
      few more = omega (arith, less, more)

      by : (count < length events → GoesOn count) → (count ≡ length events) ⊎ (count < length events) → GoesOn count
      by on (inl same) =
          record {
            events = events;
            agenda = agenda;
            s = s;
            next = next;
            plan = plan;
            long = sym same;
            plays = before;
            comes = comes;
            playing = playing;
          }
      by on (inr fewer) = on fewer
