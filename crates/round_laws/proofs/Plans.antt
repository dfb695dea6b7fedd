-- What a drain line gives, and what a schedule plans by it.
use Rattle.std.proofs.Common.{◌≡◌, ◌≤◌, ◌<◌, ◌⊎◌, inl, inr, ℕ, suc, ◌+◌, ◌-◌, ◌&&◌, ◌||◌, nat_lt, Bool, true, false}
use Rattle.std.proofs.Common.{refl, sym}
use Rattle.std.proofs.Common.{if◌then◌else◌, List, [], ◌∷◌, length, Option, Some, None, option_map, subst, arith}
use Rattle.std.proofs.lemmas.Bool.{ltb-true}
use Rattle.schedule.specs.declared.event.Counts.{Counts}
use Rattle.schedule.specs.declared.event.Event.{Event}
use Rattle.schedule.specs.declared.line.Line.{Line}
use Rattle.player.specs.declared.stop.ProcessorStop.{ProcessorStop}
use Rattle.player.specs.declared.standing.Sizes.{Sizes}
use Rattle.player.specs.declared.standing.Move.{Move}
use Rattle.player.specs.declared.standing.Turn.{Turn}
use Rattle.player.specs.declared.standing.Place.{Place}
use Rattle.player.specs.declared.standing.Place.TheVariants as place
use Rattle.player.specs.declared.standing.Rule.{Rule}
use Rattle.player.specs.declared.standing.Rule.TheVariants as rule
use Rattle.player.specs.declared.standing.LinePlace.TheVariants as standing
use Rattle.player.specs.Ended.{under_way}
use Rattle.player.specs.Rounds.{next_turn}
use Rattle.player.specs.Lines.{begun, is_before, moved, proposed, is_reached, event_by_counts, decided_move, next_event}
use Rattle.agendas.specs.Agendas.{Plan, planned_by, stopped_by}
use Rattle.round_laws.specs.Stretches.{is_drain}
use Rattle.round_laws.specs.Turns.{Turns}
use Rattle.round_laws.proofs.Turning.{turn-is}

-- what a drain line gives where it stands in a round: the next turn of the round, while its count isn't reached; or it
-- is over, between two rounds or because its count is reached
pub data LineGives (sizes : Sizes) (counts : Counts) (kind : Rule) (left : ℕ) (at : Place) : Option Move → Type 0 where
  gives : (behind : ℕ) (to : Place) (event : Event) → is_reached kind counts ≡ false
      → Turns sizes counts.x counts.y at event to → behind + 1 ≡ left + under_way at
      → LineGives sizes counts kind left at (Some (record { event = event; standing = standing.Rounds kind behind to }))
  is_past : (is_before at ≡ true) ⊎ (is_reached kind counts ≡ true) → LineGives sizes counts kind left at None

decided-drain : (kind : Rule) (left : ℕ) (at : Place) (counts : Counts) (event : Event) → is_drain kind ≡ true
    → event_by_counts (standing.Rounds kind left at) counts event ≡ event
decided-drain rule.Drain left at counts event drain = refl
decided-drain (rule.Mute node) left at counts event drain = absurd (cc)
decided-drain (rule.Until writes count) left at counts event drain = refl

gives-turn : (sizes : Sizes) (counts : Counts) (kind : Rule) (left behind : ℕ) (at : Place) → is_drain kind ≡ true
    → is_reached kind counts ≡ false → behind + 1 ≡ left + under_way at
    → LineGives sizes counts kind left at (Some (decided_move (standing.Rounds kind left at) counts
    (moved kind behind (next_turn sizes counts.x counts.y at))))
gives-turn sizes counts kind left behind at drain low count =
    let turn : Turn = next_turn sizes counts.x counts.y at in
    subst (λ event. LineGives sizes counts kind left at
    (Some (record { event = event; standing = standing.Rounds kind behind turn.place })))
    (sym (decided-drain kind left at counts turn.event drain))
    (gives behind turn.place turn.event low (turn-is sizes counts.x counts.y at) count)

gives-proposed : (sizes : Sizes) (counts : Counts) (kind : Rule) (left : ℕ) (at : Place) → is_drain kind ≡ true
    → is_reached kind counts ≡ false
    → LineGives sizes counts kind left at (option_map (decided_move (standing.Rounds kind left at) counts)
    (proposed sizes counts.x counts.y (standing.Rounds kind left at)))
gives-proposed sizes counts kind left place.Before drain low = by (nat_lt 0 left) refl
  where
    by : (some : Bool) → nat_lt 0 left ≡ some → LineGives sizes counts kind left place.Before
        (option_map (decided_move (standing.Rounds kind left place.Before) counts)
        (if some then Some (moved kind (left - 1) (next_turn sizes counts.x counts.y place.Before)) else None))
    by true is = gives-turn sizes counts kind left (left - 1) place.Before drain low
        (let some = ltb-true 0 left is in omega (arith, some))
    by false is = is_past (inl refl)
gives-proposed sizes counts kind left (place.Enters terminal) drain low =
    gives-turn sizes counts kind left left (place.Enters terminal) drain low refl
gives-proposed sizes counts kind left (place.Runs process) drain low =
    gives-turn sizes counts kind left left (place.Runs process) drain low refl
gives-proposed sizes counts kind left (place.Delivers bus some) drain low =
    gives-turn sizes counts kind left left (place.Delivers bus some) drain low refl
gives-proposed sizes counts kind left (place.Ticks node) drain low =
    gives-turn sizes counts kind left left (place.Ticks node) drain low refl

gives-unless : (sizes : Sizes) (counts : Counts) (kind : Rule) (left : ℕ) (at : Place) → is_drain kind ≡ true
    → (reached : Bool) → is_reached kind counts ≡ reached → (before idle : Bool) → is_before at ≡ before
    → LineGives sizes counts kind left at (if reached || (before && idle) then None else
    option_map (decided_move (standing.Rounds kind left at) counts)
    (proposed sizes counts.x counts.y (standing.Rounds kind left at)))
gives-unless sizes counts kind left at drain true is before idle first = is_past (inr is)
gives-unless sizes counts kind left at drain false is true true first = is_past (inl first)
gives-unless sizes counts kind left at drain false is true false first = gives-proposed sizes counts kind left at drain
    is
gives-unless sizes counts kind left at drain false is false idle first = gives-proposed sizes counts kind left at drain
    is

pub drain-gives : (sizes : Sizes) (counts : Counts) (kind : Rule) (left : ℕ) (at : Place) → is_drain kind ≡ true
    → LineGives sizes counts kind left at (next_event sizes (standing.Rounds kind left at) counts)
drain-gives sizes counts rule.Drain left at drain =
    gives-unless sizes counts rule.Drain left at drain false refl (is_before at) counts.idle refl
drain-gives sizes counts (rule.Mute node) left at drain = absurd (cc)
drain-gives sizes counts (rule.Until writes count) left at drain =
    gives-unless sizes counts (rule.Until writes count) left at drain (is_reached (rule.Until writes count) counts) refl
    (is_before at) counts.idle refl

-- Plans

-- what holds of a plan, if there is one
abbrev pub IfPlan : (Plan → Type 0) → Option Plan → Type 0
IfPlan holds None = Unit {0}
IfPlan holds (Some plan) = holds plan

pub plan-is : (holds : Plan → Type 0) (o : Option Plan) (plan : Plan) → IfPlan holds o → o ≡ Some plan → holds plan
plan-is holds o plan h is = subst (IfPlan holds) is h

-- the stop of the words comes before a plan, or doesn't
pub stop-or-not : (planned holds : Plan → Type 0) → ((plan : Plan) → planned plan → holds plan)
    → ((processor : ℕ) (plan : Plan) → planned plan → holds (stopped_by (Some processor) plan))
    → (stopping : Option ℕ) (o : Option Plan) → IfPlan planned o → IfPlan holds (option_map (stopped_by stopping) o)
stop-or-not planned holds own stopped stopping None p = tt
stop-or-not planned holds own stopped None (Some plan) p = own plan p
stop-or-not planned holds own stopped (Some processor) (Some plan) p = stopped processor plan p

-- a plan has no more lines left than there were
pub planned-fewer : (sizes : Sizes) (counts : Counts) (stop : Option ProcessorStop) (lines : List Line)
    (o : Option Move)
    → IfPlan (λ plan. length plan.agenda.lines ≤ length lines) (planned_by sizes counts stop lines o)
planned-fewer sizes counts stop lines (Some move) = omega arith
planned-fewer sizes counts stop [] None = tt
planned-fewer sizes counts stop (line ∷ lines) None =
    by (planned_by sizes counts stop lines (next_event sizes (begun line) counts))
    (planned-fewer sizes counts stop lines (next_event sizes (begun line) counts))
  where
    by : (o : Option Plan) → IfPlan (λ plan. length plan.agenda.lines ≤ length lines) o
        → IfPlan (λ plan. length plan.agenda.lines ≤ suc (length lines)) o
    by None low = tt
    by (Some plan) low = omega (arith, low)

-- what is planned by a drain line that stands in a round: its next turn, or it is over and fewer lines are left
pub data LinePlans (sizes : Sizes) (counts : Counts) (kind : Rule) (left : ℕ) (at : Place) (rest : List Line)
    : Plan → Type 0 where
  its_turn : (behind : ℕ) (to : Place) (event : Event) (stop : Option ProcessorStop)
      → Turns sizes counts.x counts.y at event to
      → behind + 1 ≡ left + under_way at → LinePlans sizes counts kind left at rest (record {
        event = event;
        agenda = record { standing = standing.Rounds kind behind to; lines = rest; stop = stop; held_back = None };
      })
  past_it : {plan : Plan} → length plan.agenda.lines < length rest → LinePlans sizes counts kind left at rest plan

pub line-plans : (sizes : Sizes) (counts : Counts) (kind : Rule) (left : ℕ) (at : Place) (rest : List Line)
    → is_drain kind ≡ true → (stop : Option ProcessorStop) → IfPlan (LinePlans sizes counts kind left at rest)
    (planned_by sizes counts stop rest (next_event sizes (standing.Rounds kind left at) counts))
line-plans sizes counts kind left at rest drain stop =
    by (next_event sizes (standing.Rounds kind left at) counts) (drain-gives sizes counts kind left at drain)
  where
    less : (lines : List Line) → length lines < length rest → (o : Option Plan)
        → IfPlan (λ plan. length plan.agenda.lines ≤ length lines) o
        → IfPlan (LinePlans sizes counts kind left at rest) o
    less lines low None few = tt
    less lines low (Some plan) few = past_it (omega (arith, low, few))

    over : (lines : List Line) → lines ≡ rest
        → IfPlan (LinePlans sizes counts kind left at rest) (planned_by sizes counts stop lines None)
    over [] is = tt
    over (line ∷ lines) is =
        less lines (subst (λ l. length lines < length l) is (let low : length lines < suc (length lines) = omega arith
        in low))
        (planned_by sizes counts stop lines (next_event sizes (begun line) counts))
        (planned-fewer sizes counts stop lines (next_event sizes (begun line) counts))

    by : (o : Option Move) → LineGives sizes counts kind left at o
        → IfPlan (LinePlans sizes counts kind left at rest) (planned_by sizes counts stop rest o)
    by _ (gives behind to event low turn count) = its_turn behind to event stop turn count
    by _ (is_past why) = over rest refl
