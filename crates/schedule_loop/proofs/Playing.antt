-- A run that is being played, and how it ends.
use Rattle.std.proofs.Common.{◌≡◌, ◌<◌, ◌∙◌, ℕ, ◌+◌, Bool, true, false, List, [], ◌∷◌, ◌++◌, length, Option, Some, None}
use Rattle.std.proofs.Common.{refl, ap, sym, subst}
use Rattle.std.proofs.lemmas.List.{length-append}
use Rattle.std.specs.Option.{IfSome}
use Rattle.schedule.specs.declared.event.Event.{Event}
use Rattle.player.specs.declared.standing.Sizes.{Sizes}
use Rattle.agendas.specs.Agendas.{Agenda, Plan, agenda_of}
use Rattle.machine_states.specs.States.{State, Would, Harm, SecondStop, DiscLoss}
use Rattle.schedule_loop.specs.Ends.{CanBePlayed, Course, EndsBy, IsEndBy, IsRunOn, IsTriedBy, Plays, RunsOutBy}
use Rattle.schedule_loop.specs.Ends.{RunsToHarmBy, ending_by, planned_in}
use Rattle.schedule_loop.specs.Plans.{seen_none, seen_on}
use Rattle.schedule_loop.specs.Playing.{IsPlaying}
use Rattle.schedule_loop.specs.Rules.{Rules}
use Rattle.schedule_loop.specs.Seen.{Scheduled, event_in}
use Rattle.schedule_loop.specs.declared.ran.Ending.{Ending}

-- the plan for the next event, where the machine and the schedule stand
abbrev pub Coming : {Wires : Type 0} → Rules Wires → Scheduled → State Wires → ℕ → Option Plan
Coming rules schedule s played = planned_in rules schedule.sizes played s schedule.agenda

longer : (events : List Event) (event : Event) → length (events ++ event ∷ []) ≡ length events + 1
longer events event = length-append events (event ∷ [])

planned : (u : Option Plan) (event : Event) (before after : Scheduled) → event_in u ≡ Some event
    → IfSome u (λ plan. after ≡ record before { agenda = plan.agenda })
    → (plan : Plan) × (u ≡ Some plan) × (plan.event ≡ event) × (after ≡ record before { agenda = plan.agenda })
planned None event before after e next = absurd (cc)
planned (Some plan) event before after e next = (plan, refl, cc, next)

none_planned : (u : Option Plan) → event_in u ≡ None → u ≡ None
none_planned None e = refl
none_planned (Some plan) e = absurd (cc)

-- what comes next, by the events that were played
comes-after : {Wires : Type 0} (rules : Rules Wires) (course : Course Wires) (schedule : Scheduled)
    (s : State Wires) (n : ℕ) (playing : IsPlaying rules course schedule s n) (plan : Option Plan)
    → Coming rules schedule s n ≡ plan
    → planned_in rules course.sizes (length playing.events) s schedule.agenda ≡ plan
comes-after rules course schedule s n playing plan is =
    subst (λ (sizes : Sizes). planned_in rules sizes (length playing.events) s schedule.agenda ≡ plan) playing.sizes
    (subst (λ m. planned_in rules schedule.sizes m s schedule.agenda ≡ plan) (sym playing.counted) is)

pub goes_on : {Wires : Type 0} (rules : Rules Wires) (course : Course Wires) (before after : Scheduled)
    (s next : State Wires) (n : ℕ) (event : Event)
    → IsPlaying rules course before s n → event_in (Coming rules before s n) ≡ Some event
    → IfSome (Coming rules before s n) (λ plan. after ≡ record before { agenda = plan.agenda })
    → IsTriedBy rules s event next None → IsPlaying rules course after next (n + 1)
goes_on rules course before after s next n event playing e stands tried =
    let found : (plan : Plan) × (Coming rules before s n ≡ Some plan) × (plan.event ≡ event)
    × (after ≡ record before { agenda = plan.agenda }) =
    planned (Coming rules before s n) event before after e stands in
    let plays : Plays rules course (playing.events ++ found.0.event ∷ []) found.0.agenda next =
    seen_on found.0 playing.plays (comes-after rules course before s n playing (Some found.0) found.1)
    (subst (λ one. IsTriedBy rules s one next None) (sym found.2) tried) in
    record {
      events = playing.events ++ found.0.event ∷ [];
      counted = longer playing.events found.0.event ∙ ap (λ m. m + 1) playing.counted;
      plays = subst (λ agenda. Plays rules course (playing.events ++ found.0.event ∷ []) agenda next)
          (sym (ap (λ (all : Scheduled). all.agenda) found.3)) plays;
      sizes = ap (λ (all : Scheduled). all.sizes) found.3 ∙ playing.sizes;
    }

over : {Wires : Type 0} (rules : Rules Wires) (course : Course Wires) (schedule : Scheduled) (s : State Wires)
    (n : ℕ) (playing : IsPlaying rules course schedule s n)
    → event_in (Coming rules schedule s n) ≡ None → RunsOutBy rules course playing.events s
over rules course schedule s n playing e = record {
  agenda = schedule.agenda;
  played = playing.plays;
  over = comes-after rules course schedule s n playing None (none_planned (Coming rules schedule s n) e);
}

ended : {Wires : Type 0} (rules : Rules Wires) (course : Course Wires) (s left : State Wires) (n asked : ℕ)
    (ending : Ending) (is_broken : Bool) (events : List Event) (idle : Bool)
    → rules.is_idle s ≡ idle → RunsOutBy rules course events s → length events ≡ n → n < 4294967295
    → is_broken ≡ false → IsEndBy rules s n idle left asked ending
    → IsRunOn rules course is_broken left asked ending
ended rules course s left n asked ending is_broken events true is_so out counted few whole end = record {
  events = events;
  state = s;
  few = subst (λ m. m < 4294967295) (sym counted) few;
  whole = whole;
  ends =
      subst (λ one. EndsBy rules course events s left asked one) (sym end.0)
      (out, is_so, end.1, end.2 ∙ sym counted);
}
ended rules course s left n asked ending is_broken events false is_so out counted few whole end = record {
  events = events;
  state = s;
  few = subst (λ m. m < 4294967295) (sym counted) few;
  whole = whole;
  ends =
      subst (λ one. EndsBy rules course events s left asked one) (sym end.0)
      (out, is_so, end.1, end.2 ∙ sym counted);
}

pub runs_out : {Wires : Type 0} (rules : Rules Wires) (course : Course Wires) (schedule : Scheduled)
    (s left : State Wires) (n asked : ℕ) (ending : Ending) (is_broken : Bool)
    → IsPlaying rules course schedule s n → event_in (Coming rules schedule s n) ≡ None → n < 4294967295
    → is_broken ≡ false → IsEndBy rules s n (rules.is_idle s) left asked ending
    → IsRunOn rules course is_broken left asked ending
runs_out rules course schedule s left n asked ending is_broken playing e few whole end =
    ended rules course s left n asked ending is_broken playing.events (rules.is_idle s) refl
    (over rules course schedule s n playing e) playing.counted few whole end

pub runs_to_harm : {Wires : Type 0} (rules : Rules Wires) (course : Course Wires) (before after : Scheduled)
    (s next : State Wires) (n asked : ℕ) (event : Event) (ending : Ending) (is_broken : Bool)
    → IsPlaying rules course before s n → event_in (Coming rules before s n) ≡ Some event
    → IfSome (Coming rules before s n) (λ plan. after ≡ record before { agenda = plan.agenda })
    → IsTriedBy rules s event next (Some ending) → is_broken ≡ false → n < 4294967295
    → asked ≡ n + 1 → IsRunOn rules course is_broken next asked ending
runs_to_harm {Wires} rules course before after s next n asked event ending is_broken playing e stands tried whole few
    count =
    let found : (plan : Plan) × (Coming rules before s n ≡ Some plan) × (plan.event ≡ event)
    × (after ≡ record before { agenda = plan.agenda }) =
    planned (Coming rules before s n) event before after e stands in
    let out : RunsToHarmBy rules course playing.events s tried.harm =
    record {
      agenda = before.agenda;
      plan = found.0;
      played = playing.plays;
      comes = comes-after rules course before s n playing (Some found.0) found.1;
      would = subst (λ one. rules.play s one ≡ Would tried.harm) (sym found.2) tried.would;
    } in
    record {
      events = playing.events;
      state = s;
      few = subst (λ m. m < 4294967295) (sym playing.counted) few;
      whole = whole;
      ends =
          subst (λ one. EndsBy rules course playing.events s next asked one) (sym tried.ends)
          (by tried.harm out tried.same (count ∙ sym (ap (λ m. m + 1) playing.counted)));
    }
  where
    by : {events : List Event} {s next : State Wires} {asked : ℕ} (harm : Harm)
        → RunsToHarmBy rules course events s harm → next ≡ s → asked ≡ length events + 1
        → EndsBy rules course events s next asked (ending_by harm)
    by (SecondStop processor) out same counted = (out, same, counted)
    by (DiscLoss process) out same counted = (out, same, counted)

-- at the beginning nothing was played
pub begins : {Wires : Type 0} (rules : Rules Wires) (course : Course Wires) (schedule : Scheduled)
    → schedule ≡ record { sizes = course.sizes; agenda = agenda_of course.lines course.stop }
    → IsPlaying rules course schedule course.start 0
begins rules course schedule is = record {
  events = [];
  counted = refl;
  plays =
      subst (λ (agenda : Agenda). Plays rules course [] agenda course.start)
      (sym (ap (λ (all : Scheduled). all.agenda) is)) seen_none;
  sizes = ap (λ (all : Scheduled). all.sizes) is;
}

-- no more events were played than the schedule asks for
pub few_played : {Wires : Type 0} (rules : Rules Wires) (ready : State Wires → Type 0) (course : Course Wires)
    (schedule : Scheduled) (s : State Wires) (n : ℕ) → CanBePlayed rules ready course
    → IsPlaying rules course schedule s n → n < 4294967294
few_played rules ready course schedule s n can playing =
    subst (λ m. m < 4294967294) playing.counted (can.few playing.events schedule.agenda s playing.plays)

-- and the state is ready
pub is_ready : {Wires : Type 0} (rules : Rules Wires) (ready : State Wires → Type 0) (course : Course Wires)
    (schedule : Scheduled) (s : State Wires) (n : ℕ) → CanBePlayed rules ready course
    → IsPlaying rules course schedule s n → ready s
is_ready rules ready course schedule s n can playing = can.ready playing.events schedule.agenda s playing.plays
