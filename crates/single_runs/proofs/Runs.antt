-- A schedule has one run.
use Rattle.std.proofs.Common.{◌≡◌, ◌<◌, ◌⊎◌, inl, inr, ℕ, Bool, true, false, List, length, Option, Some, None, refl}
use Rattle.std.proofs.Common.{sym, subst, ap, ap₂, ◌∙◌}
use Rattle.std.proofs.lemmas.Bool.{cases_order}
use Rattle.tal_tree.specs.declared.site.Site.{Site}
use Rattle.schedule.specs.declared.event.Event.{Event}
use Rattle.schedule.specs.declared.line.Line.{Line}
use Rattle.player.specs.declared.stop.ProcessorStop.{ProcessorStop}
use Rattle.agendas.specs.Agendas.{Agenda, Plan}
use Rattle.machine_states.specs.States.{Played, State, Would, Harm, SecondStop, DiscLoss}
use Rattle.packet_runs.specs.packet_wires.specs.Play.{Packeted}
use Rattle.schedule_loop.specs.Ends.{Course, EndsBy, IsRunOn, Plays, RunsOutBy, RunsToHarmBy, ending_by}
use Rattle.schedule_loop.specs.Rules.{IsPlayBy, Rules}
use Rattle.schedule_loop.specs.declared.ran.Ending.{Ending}
use Rattle.schedule_loop.specs.declared.ran.Ending.TheVariants.{Idle, Cut, Second, Lost}
use Rattle.packet_runs.specs.Ends.{IsRunOf}
use Rattle.packet_runs.specs.Runs.{course_on, packet_rules}
use Rattle.packet_runs.specs.declared.ran.Ran.{Ran}
use Rattle.single_runs.proofs.Fronts.{AreSame, goes-on, one-plan, plan_after, same-as-long}

none-not-some : {X : Type 0} → (found same : Option X) (x : X) → found ≡ same → found ≡ None → same ≡ Some x → ⊥
none-not-some found same x is none some = absurd (cc)

not-both : (test : Bool) → test ≡ true → test ≡ false → ⊥
not-both test is isnt = absurd (cc)

one-harm : {Wires : Type 0} → (made same : Played Wires) (harm other : Harm) → made ≡ same
    → made ≡ Would harm → same ≡ Would other → harm ≡ other
one-harm made same harm other is one two = cc

-- two ends after the same events in the same state
abbrev pub EndSame : {Wires : Type 0} → State Wires → State Wires → ℕ → ℕ → Ending → Ending → Type 0
EndSame left that asked other how way = (left ≡ that) × (asked ≡ other) × (how ≡ way)

module _ {Wires : Type 0} (rules : Rules Wires) where
  harm-no-play : (s t : State Wires) (event that : Event) (next : State Wires) (harm : Harm) → s ≡ t
      → event ≡ that → IsPlayBy rules s event next → rules.play t that ≡ Would harm → ⊥
  harm-no-play s t event that next harm same is (inl makes) would =
      let is = ap₂ rules.play same is in absurd (cc)
  harm-no-play s t event that next harm same is (inr skips) would =
      let is = ap₂ rules.play same is in let skip = skips.0 in absurd (cc)

module _ {Wires : Type 0} (rules : Rules Wires) (course : Course Wires) where
  -- the next event would do harm
  record WouldHarmNext (events : List Event) (agenda : Agenda) (s : State Wires) : Type 0 where
    plan : Plan
    harm : Harm
    comes : plan_after rules course events s agenda ≡ Some plan
    would : rules.play s plan.event ≡ Would harm

  -- no event comes, or one that would do harm
  abbrev Stands : List Event → Agenda → State Wires → Type 0
  Stands events agenda s = (plan_after rules course events s agenda ≡ None) ⊎ WouldHarmNext events agenda s

  -- these events were played, and then the run ended
  record HasEnded (events : List Event) (s : State Wires) : Type 0 where
    agenda : Agenda
    played : Plays rules course events agenda s
    stands : Stands events agenda s

  out-ended : (events : List Event) (s : State Wires) → RunsOutBy rules course events s → HasEnded events s
  out-ended events s out = record { agenda = out.agenda; played = out.played; stands = inl out.over }

  harm-ended : (events : List Event) (s : State Wires) (harm : Harm) → RunsToHarmBy rules course events s harm
      → HasEnded events s
  harm-ended events s harm runs =
      record {
        agenda = runs.agenda;
        played = runs.played;
        stands = inr (record { plan = runs.plan; harm = harm; comes = runs.comes; would = runs.would });
      }

  ended-as : (events : List Event) (s left : State Wires) (asked : ℕ) (how : Ending)
      → EndsBy rules course events s left asked how → HasEnded events s
  ended-as events s left asked Idle ends = out-ended events s ends.0
  ended-as events s left asked Cut ends = out-ended events s ends.0
  ended-as events s left asked (Second processor) ends = harm-ended events s (SecondStop processor) ends.0
  ended-as events s left asked (Lost process) ends = harm-ended events s (DiscLoss process) ends.0

  same-plan : (events others : List Event) (agenda other : Agenda) (s t : State Wires)
      → AreSame events others agenda other s t
      → plan_after rules course events s agenda ≡ plan_after rules course others t other
  same-plan events others agenda other s t same =
      ap₂ (λ (all : List Event) (place : Agenda × State Wires). plan_after rules course all place.1 place.0)
      same.same_events
      (ap₂ (λ (place : Agenda) (state : State Wires). (place, state)) same.same_agenda same.same_state)

  -- nothing goes on from where a run has ended
  no-event : (events others : List Event) (agenda other : Agenda) (s t next : State Wires) (plan : Plan)
      → AreSame events others agenda other s t
      → Stands others other t → plan_after rules course events s agenda ≡ Some plan
      → IsPlayBy rules s plan.event next → ⊥
  no-event events others agenda other s t next plan same (inl over) comes playing =
      none-not-some (plan_after rules course others t other) (plan_after rules course events s agenda) plan
      (sym (same-plan events others agenda other s t same)) over comes
  no-event events others agenda other s t next plan same (inr stops) comes playing =
      harm-no-play rules s t plan.event stops.plan.event next stops.harm same.same_state
      (ap (λ (one : Plan). one.event) (one-plan rules course events others agenda other s t plan stops.plan same
      comes stops.comes)) playing stops.would

  -- so a run that ended played no more events than another one
  none-longer : (events others : List Event) (s t : State Wires) → HasEnded events s → HasEnded others t
      → length events < length others → ⊥
  none-longer events others s t one two less =
      let goes = goes-on rules course (length events) others two.agenda t two.played less in
      no-event goes.events events goes.agenda one.agenda goes.s s goes.next goes.plan
      (same-as-long rules course goes.events events goes.agenda one.agenda goes.s s goes.plays one.played goes.long)
      one.stands goes.comes goes.playing

  as-long : (events others : List Event) (s t : State Wires) → HasEnded events s → HasEnded others t
      → length events ≡ length others
  as-long events others s t one two = by (cases_order (length events) (length others))
    where
      by : (length events ≡ length others) ⊎ ((length events < length others) ⊎ (length others < length events))
          → length events ≡ length others
      by (inl same) = same
      by (inr (inl less)) = absurd (none-longer events others s t one two less)
      by (inr (inr more)) = absurd (none-longer others events t s two one more)

  same-ended : (events others : List Event) (s t : State Wires) → HasEnded events s → HasEnded others t
      → (events ≡ others) × (s ≡ t)
  same-ended events others s t one two =
      let same = same-as-long rules course events others one.agenda two.agenda s t one.played two.played
      (as-long events others s t one two) in
      (same.same_events, same.same_state)

  -- How they end

  out-or-harm : (events : List Event) (s : State Wires) (harm : Harm) → RunsOutBy rules course events s
      → RunsToHarmBy rules course events s harm → ⊥
  out-or-harm events s harm out runs =
      none-not-some (plan_after rules course events s out.agenda) (plan_after rules course events s runs.agenda)
      runs.plan
      (same-plan events events out.agenda runs.agenda s s
      (same-as-long rules course events events out.agenda runs.agenda s s out.played runs.played refl)) out.over
      runs.comes

  same-harm : (events : List Event) (s : State Wires) (harm other : Harm)
      → RunsToHarmBy rules course events s harm → RunsToHarmBy rules course events s other
      → harm ≡ other
  same-harm events s harm other one two =
      let same = same-as-long rules course events events one.agenda two.agenda s s one.played two.played refl in
      let plan = one-plan rules course events events one.agenda two.agenda s s one.plan two.plan same one.comes
      two.comes in
      one-harm (rules.play s one.plan.event) (rules.play s two.plan.event) harm other
      (ap (λ (one : Plan). rules.play s one.event) plan) one.would two.would

  same-end : (events : List Event) (s left that : State Wires) (asked other : ℕ) (how way : Ending)
      → EndsBy rules course events s left asked how
      → EndsBy rules course events s that other way → EndSame left that asked other how way
  same-end events s left that asked other Idle Idle one two = (one.2 ∙ sym two.2, one.3 ∙ sym two.3, refl)
  same-end events s left that asked other Cut Cut one two = (one.2 ∙ sym two.2, one.3 ∙ sym two.3, refl)
  same-end events s left that asked other (Second processor) (Second second) one two = (
    one.1 ∙ sym two.1,
    one.2 ∙ sym two.2,
    ap ending_by
        (same-harm events s (SecondStop processor) (SecondStop second) one.0 two.0),
  )
  same-end events s left that asked other (Lost process) (Lost another) one two = (
    one.1 ∙ sym two.1,
    one.2 ∙ sym two.2,
    ap ending_by
        (same-harm events s (DiscLoss process) (DiscLoss another) one.0 two.0),
  )
  same-end events s left that asked other (Second processor) (Lost process) one two =
      absurd (let same = same-harm events s (SecondStop processor) (DiscLoss process) one.0 two.0 in cc)
  same-end events s left that asked other (Lost process) (Second processor) one two =
      absurd (let same = same-harm events s (DiscLoss process) (SecondStop processor) one.0 two.0 in cc)
  same-end events s left that asked other Idle Cut one two = absurd (not-both (rules.is_idle s) one.1 two.1)
  same-end events s left that asked other Cut Idle one two = absurd (not-both (rules.is_idle s) two.1 one.1)
  same-end events s left that asked other Idle (Second processor) one two =
      absurd (out-or-harm events s (SecondStop processor) one.0 two.0)
  same-end events s left that asked other Cut (Second processor) one two =
      absurd (out-or-harm events s (SecondStop processor) one.0 two.0)
  same-end events s left that asked other (Second processor) Idle one two =
      absurd (out-or-harm events s (SecondStop processor) two.0 one.0)
  same-end events s left that asked other (Second processor) Cut one two =
      absurd (out-or-harm events s (SecondStop processor) two.0 one.0)
  same-end events s left that asked other Idle (Lost process) one two =
      absurd (out-or-harm events s (DiscLoss process) one.0 two.0)
  same-end events s left that asked other Cut (Lost process) one two =
      absurd (out-or-harm events s (DiscLoss process) one.0 two.0)
  same-end events s left that asked other (Lost process) Idle one two =
      absurd (out-or-harm events s (DiscLoss process) two.0 one.0)
  same-end events s left that asked other (Lost process) Cut one two =
      absurd (out-or-harm events s (DiscLoss process) two.0 one.0)

  same-end-on : (events others : List Event) (s t left that : State Wires) (asked other : ℕ) (how way : Ending)
      → (events ≡ others) × (s ≡ t)
      → EndsBy rules course events s left asked how → EndsBy rules course others t that other way
      → EndSame left that asked other how way
  same-end-on events others s t left that asked other how way (events_same, state_same) one two =
      same-end others t left that asked other how way
      (subst (λ (state : State Wires). EndsBy rules course others state left asked how) state_same
      (subst (λ (all : List Event). EndsBy rules course all s left asked how) events_same one)) two

  -- The laws, on any machine

  pub same-played : (broken worn : Bool) (left that : State Wires) (asked other : ℕ) (how way : Ending)
      (one : IsRunOn rules course broken left asked how) (two : IsRunOn rules course worn that other way)
      → (one.events ≡ two.events) × (one.state ≡ two.state)
  same-played broken worn left that asked other how way one two =
      same-ended one.events two.events one.state two.state
      (ended-as one.events one.state left asked how one.ends) (ended-as two.events two.state that other way two.ends)

  pub same-left : (broken worn : Bool) (left that : State Wires) (asked other : ℕ) (how way : Ending)
      → IsRunOn rules course broken left asked how → IsRunOn rules course worn that other way
      → EndSame left that asked other how way
  same-left broken worn left that asked other how way one two =
      same-end-on one.events two.events one.state two.state left that asked other how way
      (same-played broken worn left that asked other how way one two) one.ends two.ends

-- Over packets

same-ran : (ran other : Ran) → ran.machine.is_broken ≡ other.machine.is_broken
    → EndSame ran.machine.state other.machine.state ran.asked other.asked ran.ending other.ending → ran ≡ other
same-ran ran other broken (state, asked, ending) = made broken state asked ending
  where
    ran_of : Bool → Packeted → ℕ → Ending → Ran
    ran_of broken state asked ending =
        record { machine = record { is_broken = broken; state = state }; asked = asked; ending = ending }

    made : {a b : Bool} {s t : Packeted} {n m : ℕ} {x y : Ending} → a ≡ b → s ≡ t → n ≡ m → x ≡ y
        → ran_of a s n x ≡ ran_of b t m y
    made {a = a} {b = b} {s = s} {t = t} {n = n} {m = m} {x = x} {y = y} broken state asked ending = cc

module _ (site : Site) (lines : List Line) (stop : Option ProcessorStop) where
  pub same-run-played : (ran other : Ran) (one : IsRunOf site lines stop ran) (two : IsRunOf site lines stop other)
      → (one.events ≡ two.events) × (one.state ≡ two.state)
  same-run-played ran other one two =
      same-played packet_rules (course_on site lines stop) ran.machine.is_broken other.machine.is_broken
      ran.machine.state other.machine.state ran.asked other.asked ran.ending other.ending one two

  pub one-run : (ran other : Ran) → IsRunOf site lines stop ran → IsRunOf site lines stop other → ran ≡ other
  one-run ran other one two =
      same-ran ran other (one.whole ∙ sym two.whole)
      (same-left packet_rules (course_on site lines stop) ran.machine.is_broken other.machine.is_broken
      ran.machine.state other.machine.state ran.asked other.asked ran.ending other.ending one two)
