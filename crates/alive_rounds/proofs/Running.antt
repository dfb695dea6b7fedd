-- Why alive packets are fresh all through a calm schedule.
use Rattle.std.proofs.Common.{◌≡◌, ◌≤◌, ◌<◌, ◌⊎◌, inl, inr, ℕ, ◌-◌, ◌∙◌, ◌&&◌, nat_lt, nat_le, Bool, true, false}
use Rattle.std.proofs.Common.{if◌then◌else◌, List, [], ◌∷◌, length, Option, Some, None, option_map, refl, ap, sym}
use Rattle.std.proofs.Common.{subst}
use Rattle.std.proofs.Common.{arith}
use Rattle.std.specs.List.{list_all}
use Rattle.schedule.specs.declared.bus_name.BusName.TheVariants as bus
use Rattle.schedule.specs.declared.event.Counts.{Counts}
use Rattle.schedule.specs.declared.event.Event.{Event}
use Rattle.schedule.specs.declared.event.Event.TheVariants.{Run, Enter, Deliver, Lose, Repeat, Tick, Fail, Reload}
use Rattle.schedule.specs.declared.event.Event.TheVariants.{Drive}
use Rattle.schedule.specs.declared.line.Line.{Line}
use Rattle.schedule.specs.declared.line.Line.TheVariants.{One, Many, Drain, Mix, Mute, Until}
use Rattle.player.specs.declared.stop.ProcessorStop.{ProcessorStop}
use Rattle.player.specs.declared.standing.Sizes.{Sizes}
use Rattle.player.specs.declared.standing.Move.{Move}
use Rattle.player.specs.declared.standing.Place.{Place}
use Rattle.player.specs.declared.standing.Place.TheVariants as place
use Rattle.player.specs.declared.standing.Rule.{Rule}
use Rattle.player.specs.declared.standing.Rule.TheVariants as rule
use Rattle.player.specs.declared.standing.LinePlace.{LinePlace}
use Rattle.player.specs.declared.standing.LinePlace.TheVariants as standing
use Rattle.player.specs.Lines.{begun, is_before, is_reached, decided_move, next_event}
use Rattle.agendas.specs.Agendas.{Agenda, Plan, PlaysOn, plays_none, plays_on, planned_by, coming, stopped_by}
use Rattle.agendas.specs.Agendas.{next_plan}
use Rattle.alive_regroup.specs.Watching.{is_silent}
use Rattle.calm_schedules.specs.Calm.{is_calm_line}
use Rattle.round_laws.specs.Buses.{HasBuses}
use Rattle.round_laws.specs.Stretches.{CountsBuses}
use Rattle.round_laws.specs.Turns.{Turns, due, ticked, enters, runs, delivers_x, delivers_y, ticks, ends}
use Rattle.round_laws.proofs.Plans.{IfPlan, plan-is, stop-or-not, LineGives, gives, is_past, drain-gives}
use Rattle.round_laws.proofs.Stretching.{as-turn}
use Rattle.alive_rounds.specs.Watched.{Sight, IsWatched, after_tick_of}
use Rattle.alive_rounds.specs.Fresh.{TwoRun, IsFresh}
use Rattle.alive_rounds.specs.Runs.{shows_nothing, CountsShown, is_ticking, StandsFresh, ComesFresh, by_turn, by_stop}
use Rattle.alive_rounds.specs.Runs.{RunsFresh}
use Rattle.alive_rounds.proofs.Freshness.{fresh-turn, fresh-stopped, fresh-broken, none-silent}
use Rattle.schedule.specs.declared.event.DriveEvent.{DriveEvent}

-- Lines

-- what a line gives, or that it is over with alive packets fresh
abbrev GivesFresh : {S P : Type 0} → Sizes → Sight S P → (S → Counts) → S → Option Move → Type 0
GivesFresh {S} {P} sizes w counts s None = IsFresh sizes.processors w place.Before s
GivesFresh {S} {P} sizes w counts s (Some move) = ComesFresh sizes w counts s move.standing move.event

round-over : {S P : Type 0} (sizes : Sizes) (w : Sight S P) (counts : S → Counts) (s : S) (kind : Rule) (at : Place)
    → IsFresh sizes.processors w at s → (is_ticking at ≡ true → is_reached kind (counts s) ≡ false)
    → (is_before at ≡ true) ⊎ (is_reached kind (counts s) ≡ true) → IsFresh sizes.processors w place.Before s
round-over sizes w counts s kind place.Before h low why = h
round-over sizes w counts s kind (place.Enters terminal) h low why =
    fresh-broken sizes.processors w s (place.Enters terminal) refl h
round-over sizes w counts s kind (place.Runs process) h low why =
    fresh-broken sizes.processors w s (place.Runs process) refl h
round-over sizes w counts s kind (place.Delivers bus left) h low why =
    fresh-broken sizes.processors w s (place.Delivers bus left) refl h
round-over sizes w counts s kind (place.Ticks node) h low (inl before) = absurd (cc)
round-over sizes w counts s kind (place.Ticks node) h low (inr reached) =
    absurd (let bad : true ≡ false = sym reached ∙ low refl in cc)

line-gives : {S P : Type 0} (sizes : Sizes) (w : Sight S P) (counts : S → Counts) → CountsBuses w.buses counts → (s : S)
    (now : LinePlace) → StandsFresh sizes w counts now s → GivesFresh sizes w counts s (next_event sizes now (counts s))
line-gives sizes w counts counted s standing.Ended h = h
line-gives sizes w counts counted s (standing.Event (Fail processor) left) h = by (nat_lt 0 left)
  where
    by : (some : Bool) → GivesFresh sizes w counts s
        (option_map (decided_move (standing.Event (Fail processor) left) (counts s)) (if some then
        Some (record { event = Fail processor; standing = standing.Event (Fail processor) (left - 1) }) else None))
    by true = by_stop (left - 1) processor h.0
    by false = h.0
line-gives sizes w counts counted s (standing.Event (Run process) left) h = absurd (let bad : false ≡ true = h.1 in cc)
line-gives sizes w counts counted s (standing.Event (Enter terminal) left) h = absurd (let bad : false ≡ true = h.1 in
    cc)
line-gives sizes w counts counted s (standing.Event (Deliver bus k) left) h = absurd (let bad : false ≡ true = h.1 in
    cc)
line-gives sizes w counts counted s (standing.Event (Lose bus k) left) h = absurd (let bad : false ≡ true = h.1 in cc)
line-gives sizes w counts counted s (standing.Event (Repeat bus k) left) h = absurd (let bad : false ≡ true = h.1 in cc)
line-gives sizes w counts counted s (standing.Event (Tick node) left) h = absurd (let bad : false ≡ true = h.1 in cc)
line-gives sizes w counts counted s (standing.Event (Reload processor) left) h = absurd (let bad : false ≡ true = h.1 in
    cc)
line-gives sizes w counts counted s (standing.Event (Drive change) left) h = absurd (let bad : false ≡ true = h.1 in
    cc)
line-gives {S} {P} sizes w counts counted s (standing.Rounds kind left at) h =
    by (next_event sizes (standing.Rounds kind left at) (counts s)) (drain-gives sizes (counts s) kind left at h.1)
  where
    by : (o : Option Move) → LineGives sizes (counts s) kind left at o → GivesFresh sizes w counts s o
    by _ (gives behind to event low turn count) =
        by_turn kind behind at to event (as-turn sizes w.buses counts counted s at event to turn) h.0 h.1 low
    by _ (is_past why) = round-over sizes w counts s kind at h.0 h.2 why
line-gives sizes w counts counted s (standing.Mixed left at draws) h = absurd h

begins-fresh : {S P : Type 0} (sizes : Sizes) (w : Sight S P) (counts : S → Counts) (s : S) (line : Line)
    → is_calm_line line ≡ true → IsFresh sizes.processors w place.Before s → StandsFresh sizes w counts (begun line) s
begins-fresh sizes w counts s (One event) calm h = (h, calm)
begins-fresh sizes w counts s (Many event times) calm h = absurd (cc)
begins-fresh sizes w counts s (Drain rounds) calm h = (
  h,
  refl,
  λ ticking. absurd (let bad : false ≡ true = ticking in
      cc),
)
begins-fresh sizes w counts s (Mix start rounds) calm h = absurd (cc)
begins-fresh sizes w counts s (Mute node rounds) calm h = absurd (cc)
begins-fresh sizes w counts s (Until writes count rounds) calm h =
    (h, refl, λ ticking. absurd (let bad : false ≡ true = ticking in cc))

-- Plans

-- a plan whose event comes with alive packets fresh, or whose event a stop holds back
data PlansFresh {S P : Type 0} (sizes : Sizes) (w : Sight S P) (counts : S → Counts) (s : S) : Plan → Type 0 where
  its_own : (now : LinePlace) (lines : List Line) (stop : Option ProcessorStop) (event : Event)
      → ComesFresh sizes w counts s now event → list_all is_calm_line lines ≡ true
      → PlansFresh sizes w counts s
      (record { event = event; agenda = record { standing = now; lines = lines; stop = stop; held_back = None } })
  stop_first : (now : LinePlace) (lines : List Line) (stop : Option ProcessorStop) (event : Event) (processor : ℕ)
      → ComesFresh sizes w counts s now event → list_all is_calm_line lines ≡ true
      → PlansFresh sizes w counts s (record {
        event = Fail processor;
        agenda = record { standing = now; lines = lines; stop = stop; held_back = Some event };
      })

both-true : (a b : Bool) → (a && b) ≡ true → (a ≡ true) × (b ≡ true)
both-true true b is = (refl, is)
both-true false b is = absurd (cc)

-- a plan as planned by lines, before the stop of the words is looked at
abbrev PlannedFresh : {S P : Type 0} → Sizes → Sight S P → (S → Counts) → S → Plan → Type 0
PlannedFresh {S} {P} sizes w counts s plan = ComesFresh sizes w counts s plan.agenda.standing plan.event
    × (list_all is_calm_line plan.agenda.lines ≡ true) × (plan.agenda.held_back ≡ None)

planned-fresh : {S P : Type 0} (sizes : Sizes) (w : Sight S P) (counts : S → Counts) → CountsBuses w.buses counts
    → (s : S) (stop : Option ProcessorStop) (lines : List Line) → list_all is_calm_line lines ≡ true
    → (o : Option Move) → GivesFresh sizes w counts s o
    → IfPlan (PlannedFresh sizes w counts s) (planned_by sizes (counts s) stop lines o)
planned-fresh sizes w counts counted s stop lines calm (Some move) h = (h, calm, refl)
planned-fresh sizes w counts counted s stop [] calm None h = tt
planned-fresh sizes w counts counted s stop (line ∷ lines) calm None h =
    let both = both-true (is_calm_line line) (list_all is_calm_line lines) calm in
    planned-fresh sizes w counts counted s stop lines both.1 (next_event sizes (begun line) (counts s))
    (line-gives sizes w counts counted s (begun line) (begins-fresh sizes w counts s line both.0 h))

upcoming-fresh : {S P : Type 0} (sizes : Sizes) (w : Sight S P) (counts : S → Counts) → CountsBuses w.buses counts
    → (s : S) (before : ℕ) (now : LinePlace) (lines : List Line) (stop : Option ProcessorStop) (held : Option Event)
    → RunsFresh sizes w counts (record { standing = now; lines = lines; stop = stop; held_back = held }) s
    → IfPlan (PlansFresh sizes w counts s) (next_plan sizes before (counts s)
    (record { standing = now; lines = lines; stop = stop; held_back = held }))
upcoming-fresh sizes w counts counted s before now lines stop (Some event) h = its_own now lines stop event h.1 h.0
upcoming-fresh {S} {P} sizes w counts counted s before now lines stop None h =
    stop-or-not (PlannedFresh sizes w counts s) (PlansFresh sizes w counts s) own stopped (coming stop before)
    (planned_by sizes (counts s) stop lines (next_event sizes now (counts s)))
    (planned-fresh sizes w counts counted s stop lines h.0 (next_event sizes now (counts s))
    (line-gives sizes w counts counted s now h.1))
  where
    own : (plan : Plan) → PlannedFresh sizes w counts s plan → PlansFresh sizes w counts s plan
    own plan p = subst (λ held. PlansFresh sizes w counts s (record plan {
      agenda = record plan.agenda {
        held_back =
            held;
      };
    }))
        (sym p.2) (its_own plan.agenda.standing plan.agenda.lines plan.agenda.stop plan.event p.0 p.1)

    stopped : (processor : ℕ) (plan : Plan) → PlannedFresh sizes w counts s plan
        → PlansFresh sizes w counts s (stopped_by (Some processor) plan)
    stopped processor plan p = stop_first plan.agenda.standing plan.agenda.lines None plan.event processor p.0 p.1

-- Events

same-reached : (kind : Rule) (one other : Counts) → other.writes ≡ one.writes → other.replies ≡ one.replies
    → is_reached kind other ≡ is_reached kind one
same-reached rule.Drain one other writes replies = refl
same-reached (rule.Mute node) one other writes replies = refl
same-reached (rule.Until true count) one other writes replies = ap (nat_le count) writes
same-reached (rule.Until false count) one other writes replies = ap (nat_le count) replies

-- a round is among its ticks after a tick alone
to-ticks : {sizes : Sizes} {x y : ℕ} {from to : Place} {event : Event} → Turns sizes x y from event to
    → is_ticking to ≡ true → shows_nothing event ≡ true
to-ticks (enters terminal early low) ticking = absurd (cc)
to-ticks (runs process early low) ticking = absurd (cc)
to-ticks (delivers_x left some at) ticking = absurd (cc)
to-ticks (delivers_y left empty some at) ticking = absurd (cc)
to-ticks (ticks node low came at) ticking = refl
to-ticks (ends came all) ticking = absurd (cc)

comes-on : {S P : Type 0} (sizes : Sizes) (w : Sight S P) (counts : S → Counts) (goes : S → Event → S → Type 0)
    → IsWatched sizes.processors w goes → sizes.processors ≤ 16 → HasBuses w.buses goes → CountsShown goes counts
    → (s next : S) (now : LinePlace) (event : Event) → ComesFresh sizes w counts s now event → goes s event next
    → StandsFresh sizes w counts now next
comes-on sizes w counts goes watched few has shown s next _ _ (by_turn kind left from to event turn h drain low) g = (
  fresh-turn sizes w goes watched few has s event next from to turn g h,
  drain,
  λ ticking. let same = shown s event next (to-ticks turn ticking) g in
      same-reached kind (counts s) (counts next) same.0 same.1 ∙ low,
)
comes-on sizes w counts goes watched few has shown s next _ _ (by_stop left processor h) g =
    (fresh-stopped sizes.processors w goes watched has s processor next place.Before g h, refl)

-- the stop of the words comes before it
comes-later : {S P : Type 0} (sizes : Sizes) (w : Sight S P) (counts : S → Counts) (goes : S → Event → S → Type 0)
    → IsWatched sizes.processors w goes → HasBuses w.buses goes → CountsShown goes counts
    → (s next : S) (processor : ℕ) → goes s (Fail processor) next → (now : LinePlace) (event : Event)
    → ComesFresh sizes w counts s now event → ComesFresh sizes w counts next now event
comes-later sizes w counts goes watched has shown s next processor g _ _ (by_turn kind left from to event turn h drain
    low) =
    let same = shown s (Fail processor) next refl g in
    by_turn kind left from to event
    (subst (λ l. Turns sizes (length l) (length (w.buses next bus.Y)) from event to) (sym (has s (Fail processor) next g
    bus.X))
    (subst (λ l. Turns sizes (length (w.buses s bus.X)) (length l) from event to) (sym (has s (Fail processor) next g
    bus.Y))
    turn)) (fresh-stopped sizes.processors w goes watched has s processor next from g h) drain
    (same-reached kind (counts s) (counts next) same.0 same.1 ∙ low)
comes-later sizes w counts goes watched has shown s next processor g _ _ (by_stop left other h) =
    by_stop left other (fresh-stopped sizes.processors w goes watched has s processor next place.Before g h)

plan-on : {S P : Type 0} (sizes : Sizes) (w : Sight S P) (counts : S → Counts) (goes : S → Event → S → Type 0)
    → IsWatched sizes.processors w goes → sizes.processors ≤ 16 → HasBuses w.buses goes → CountsShown goes counts
    → (s next : S) (plan : Plan) → PlansFresh sizes w counts s plan → goes s plan.event next
    → RunsFresh sizes w counts plan.agenda next
plan-on sizes w counts goes watched few has shown s next _ (its_own now lines stop event comes calm) g =
    (calm, comes-on sizes w counts goes watched few has shown s next now event comes g)
plan-on sizes w counts goes watched few has shown s next _ (stop_first now lines stop event processor comes calm) g =
    (calm, comes-later sizes w counts goes watched has shown s next processor g now event comes)

-- all through a run of a calm schedule
pub runs-fresh : {S P : Type 0} (sizes : Sizes) (w : Sight S P) (counts : S → Counts) (goes : S → Event → S → Type 0)
    → IsWatched sizes.processors w goes → sizes.processors ≤ 16 → HasBuses w.buses goes → CountsBuses w.buses counts
    → CountsShown goes counts → (start : S) (lines : List Line) (stop : Option ProcessorStop)
    → list_all is_calm_line lines ≡ true → IsFresh sizes.processors w place.Before start
    → (events : List Event) (agenda : Agenda) (s : S) → PlaysOn sizes counts goes start lines stop events agenda s
    → RunsFresh sizes w counts agenda s
runs-fresh sizes w counts goes watched few has counted shown start lines stop calm h _ _ _ plays_none = (calm, h)
runs-fresh sizes w counts goes watched few has counted shown start lines stop calm h _ _ _
    (plays_on {events = events} {agenda = agenda} {s = s} {next = next} plan before is g) =
    plan-on sizes w counts goes watched few has shown s next plan
    (plan-is (PlansFresh sizes w counts s) _ plan
    (upcoming-fresh sizes w counts counted s (length events) agenda.standing agenda.lines agenda.stop agenda.held_back
    (runs-fresh sizes w counts goes watched few has counted shown start lines stop calm h events agenda s before)) is) g

-- Ticks

-- a processor ticks when bus X has nothing left to deliver
tick-turn : {sizes : Sizes} {x y : ℕ} {from to : Place} {event : Event} (node : ℕ) → Turns sizes x y from event to
    → event ≡ Tick node → node < 16 → (due from bus.X x ≡ 0) × (ticked from ≡ node)
tick-turn node (enters terminal early low) is below = absurd (cc)
tick-turn node (runs process early low) is below = absurd (cc)
tick-turn node (delivers_x left some at) is below = absurd (cc)
tick-turn node (delivers_y left empty some at) is below = absurd (cc)
tick-turn node (ticks other low came at) is below = (came.0, at ∙ (let same : other ≡ node = cc in same))
tick-turn node (ends came all) is below =
    absurd (let same : 16 ≡ node = cc in let bad : 16 < 16 = omega (arith, below, same) in omega (arith, bad))

-- no turn is one of a drive or loads a processor again
abbrev IsOfTurns : Event → Type 0
IsOfTurns (Run process) = Unit {0}
IsOfTurns (Enter terminal) = Unit {0}
IsOfTurns (Deliver bus k) = Unit {0}
IsOfTurns (Lose bus k) = Unit {0}
IsOfTurns (Repeat bus k) = Unit {0}
IsOfTurns (Tick node) = Unit {0}
IsOfTurns (Fail processor) = Unit {0}
IsOfTurns (Reload processor) = ⊥
IsOfTurns (Drive change) = ⊥

of-turns : {sizes : Sizes} {x y : ℕ} {from to : Place} {event : Event} → Turns sizes x y from event to
    → IsOfTurns event
of-turns (enters terminal early low) = tt
of-turns (runs process early low) = tt
of-turns (delivers_x left some at) = tt
of-turns (delivers_y left empty some at) = tt
of-turns (ticks other low came at) = tt
of-turns (ends came all) = tt

calm-event : {S P : Type 0} (sizes : Sizes) (w : Sight S P) (counts : S → Counts) → CountsBuses w.buses counts
    → (before : ℕ) (agenda : Agenda) (s : S) → RunsFresh sizes w counts agenda s → (plan : Plan)
    → next_plan sizes before (counts s) agenda ≡ Some plan → IsOfTurns plan.event
calm-event {S} {P} sizes w counts counted before agenda s h plan comes =
    by plan (plan-is (PlansFresh sizes w counts s) _ plan
    (upcoming-fresh sizes w counts counted s before agenda.standing agenda.lines agenda.stop agenda.held_back h) comes)
  where
    at_turn : (now : LinePlace) (event : Event) → ComesFresh sizes w counts s now event → IsOfTurns event
    at_turn _ _ (by_turn kind left from to event turn h drain low) = of-turns turn
    at_turn _ _ (by_stop left processor h) = tt

    by : (plan : Plan) → PlansFresh sizes w counts s plan → IsOfTurns plan.event
    by _ (its_own now lines stop event comes calm) = at_turn now event comes
    by _ (stop_first now lines stop event processor comes calm) = tt

-- in a calm schedule nothing of a drive comes
pub no-drive : {S P : Type 0} (sizes : Sizes) (w : Sight S P) (counts : S → Counts) → CountsBuses w.buses counts
    → (before : ℕ) (agenda : Agenda) (s : S) → RunsFresh sizes w counts agenda s → (plan : Plan)
    → next_plan sizes before (counts s) agenda ≡ Some plan → (change : DriveEvent) → plan.event ≡ Drive change → ⊥
no-drive sizes w counts counted before agenda s h plan comes change is =
    subst IsOfTurns is (calm-event sizes w counts counted before agenda s h plan comes)

-- and no processor is loaded again
pub no-reload : {S P : Type 0} (sizes : Sizes) (w : Sight S P) (counts : S → Counts) → CountsBuses w.buses counts
    → (before : ℕ) (agenda : Agenda) (s : S) → RunsFresh sizes w counts agenda s → (plan : Plan)
    → next_plan sizes before (counts s) agenda ≡ Some plan → (processor : ℕ) → plan.event ≡ Reload processor → ⊥
no-reload sizes w counts counted before agenda s h plan comes processor is =
    subst IsOfTurns is (calm-event sizes w counts counted before agenda s h plan comes)

-- in a calm schedule a processor that ticks finds nobody silent that runs
pub nobody-silent : {S P : Type 0} (sizes : Sizes) (w : Sight S P) (counts : S → Counts) → CountsBuses w.buses counts
    → sizes.processors ≤ 16 → (before : ℕ) (agenda : Agenda) (s : S) → RunsFresh sizes w counts agenda s → (plan : Plan)
    → next_plan sizes before (counts s) agenda ≡ Some plan → (node p : ℕ) → plan.event ≡ Tick node
    → TwoRun sizes.processors w s node p
    → option_map is_silent (after_tick_of (w.checks s node) (w.knows s node p)) ≡ Some true → ⊥
nobody-silent {S} {P} sizes w counts counted few before agenda s h plan comes node p is two silent =
    by plan (plan-is (PlansFresh sizes w counts s) _ plan
    (upcoming-fresh sizes w counts counted s before agenda.standing agenda.lines agenda.stop agenda.held_back h) comes)
    is
  where
    at_turn : (now : LinePlace) (event : Event) → ComesFresh sizes w counts s now event → event ≡ Tick node → ⊥
    at_turn _ _ (by_turn kind left from to event turn h drain low) is =
        let at = tick-turn node turn is (let one = two.one in omega (arith, one, few)) in
        none-silent sizes.processors w s from node p two at.0 at.1 h silent
    at_turn _ _ (by_stop left processor h) is = absurd (cc)

    by : (plan : Plan) → PlansFresh sizes w counts s plan → plan.event ≡ Tick node → ⊥
    by _ (its_own now lines stop event comes calm) is = at_turn now event comes is
    by _ (stop_first now lines stop event processor comes calm) is = absurd (cc)

-- and so its tick stops nobody
pub nobody-stopped : {S P : Type 0} (sizes : Sizes) (w : Sight S P) (counts : S → Counts)
    (goes : S → Event → S → Type 0) → IsWatched sizes.processors w goes → CountsBuses w.buses counts
    → sizes.processors ≤ 16 → (before : ℕ) (agenda : Agenda) (s next : S) → RunsFresh sizes w counts agenda s
    → (plan : Plan) → next_plan sizes before (counts s) agenda ≡ Some plan → goes s plan.event next → (node p : ℕ)
    → plan.event ≡ Tick node → p < sizes.processors → w.runs s p ≡ true
    → w.runs next p ≡ true
nobody-stopped {S} {P} sizes w counts goes watched counted few before agenda s next h plan comes g node p is low_p
    ran =
    by (w.runs next p) refl
  where
    by : (still : Bool) → w.runs next p ≡ still → still ≡ true
    by true same = refl
    by false gone = let line = watched.stops s next node p (subst (λ e. goes s e next) is g) ran gone in
        absurd (nobody-silent sizes w counts counted few before agenda s h plan comes node p is
        (record { one = line.one; other = low_p; apart = line.apart; here = line.runs; there = ran }) line.silent)
