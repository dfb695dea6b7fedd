-- A line that makes whole drain rounds, or asks for single events, doesn't look at the packet that its next event
-- concerns. So it gives what it would give if no packet were looked at.
use Rattle.std.proofs.Common.{◌≡◌, ℕ, ◌∙◌, nat_lt, Bool, true, false, if◌then◌else◌, List, [], ◌∷◌, Option, Some, None}
use Rattle.std.proofs.Common.{option_map, refl, ap, sym}
use Rattle.schedule.specs.declared.event.Counts.{Counts}
use Rattle.schedule.specs.declared.event.Event.{Event}
use Rattle.schedule.specs.declared.line.Line.{Line}
use Rattle.player.specs.declared.player.Player.{Player}
use Rattle.player.specs.declared.standing.Sizes.{Sizes}
use Rattle.player.specs.declared.standing.Move.{Move}
use Rattle.player.specs.declared.standing.Rule.TheVariants as rule
use Rattle.player.specs.declared.standing.LinePlace.{LinePlace}
use Rattle.player.specs.declared.standing.LinePlace.TheVariants as standing
use Rattle.player.specs.declared.stop.ProcessorStop.{ProcessorStop}
use Rattle.player.specs.Lines.{begun, decided_move, is_before, is_before_mixed, is_over, moved, moved_mixed, next_event}
use Rattle.player.specs.Lines.{proposed}
use Rattle.player.specs.Rounds.{next_turn}
use Rattle.player.specs.Mixes.{next_mixed}
use Rattle.agendas.specs.Agendas.{Agenda, Plan, coming, planned_by, stopped_by, next_plan, upcoming_after}
use Rattle.schedule_loop.specs.Plans.{Sight, planned_seen, upcoming_seen, upcoming_seen_after}
use Rattle.round_laws.specs.Stretches.{is_drain}
use Rattle.bounded_runs.specs.Places.{is_in_drain_round}

-- what is counted where the packet that an event concerns is looked at too
abbrev pub looked_at : Counts → (Player → Bool) → (Player → ℕ) → Sight
looked_at counts alive sender player = record counts { alive = alive player; sender = sender player }

-- a line that stands here doesn't look at it
abbrev pub is_blind : LinePlace → Bool
is_blind standing.Ended = true
is_blind (standing.Event event left) = true
is_blind (standing.Rounds rule left place) = is_drain rule
is_blind (standing.Mixed left place draws) = false

-- it doesn't in a drain round
pub drains-blind : (now : LinePlace) → is_in_drain_round now ≡ true → is_blind now ≡ true
drains-blind standing.Ended drains = absurd (cc)
drains-blind (standing.Event event left) drains = absurd (cc)
drains-blind (standing.Rounds rule left place) drains = drains
drains-blind (standing.Mixed left place draws) drains = absurd (cc)

-- two moves leave the line at one place, and are the same if it doesn't look there
abbrev AlikeMoves : Move → Move → Type 0
AlikeMoves one other = (one.standing ≡ other.standing) × (is_blind one.standing ≡ true → one ≡ other)

abbrev pub Alike : Option Move → Option Move → Type 0
Alike None None = Unit {0}
Alike None (Some other) = ⊥
Alike (Some one) None = ⊥
Alike (Some one) (Some other) = AlikeMoves one other

abbrev pub IfMove : (Move → Type 0) → Option Move → Type 0
IfMove holds None = Unit {0}
IfMove holds (Some move) = holds move

alike-by : (over : Bool) (f g : Move → Move) (move : Option Move) → IfMove (λ one. AlikeMoves (f one) (g one)) move
    → Alike (if over then None else option_map f move) (if over then None else option_map g move)
alike-by true f g move all = tt
alike-by false f g None all = tt
alike-by false f g (Some move) all = all

each-move : (holds : Move → Type 0) (move : Option Move) → ((one : Move) → holds one) → IfMove holds move
each-move holds None all = tt
each-move holds (Some move) all = all move

round-moves : (holds : Move → Type 0) (first some : Bool) (one other : Move) → holds one → holds other
    → IfMove holds (if first then (if some then Some one else None) else Some other)
round-moves holds true true one other a b = a
round-moves holds true false one other a b = tt
round-moves holds false some one other a b = b

module _ (sizes : Sizes) (counts : Counts) where
  module _ (alive : Bool) (sender : ℕ) where
    abbrev seen : Counts
    seen = record counts { alive = alive; sender = sender }

    alike-next : (now : LinePlace) → Alike (next_event sizes now seen) (next_event sizes now counts)
    alike-next standing.Ended = tt
    alike-next (standing.Event event left) =
        alike-by false (decided_move (standing.Event event left) seen) (decided_move (standing.Event event left) counts)
        (proposed sizes counts.x counts.y (standing.Event event left))
        (each-move _ (proposed sizes counts.x counts.y (standing.Event event left)) (λ one. (refl, λ blind. refl)))
    alike-next (standing.Rounds rule.Drain left place) =
        let now : LinePlace = standing.Rounds rule.Drain left place in
        alike-by (is_over now counts) (decided_move now seen) (decided_move now counts)
        (proposed sizes counts.x counts.y now)
        (each-move _ (proposed sizes counts.x counts.y now) (λ one. (refl, λ blind. refl)))
    alike-next (standing.Rounds (rule.Until true count) left place) =
        let now : LinePlace = standing.Rounds (rule.Until true count) left place in
        alike-by (is_over now counts) (decided_move now seen) (decided_move now counts)
        (proposed sizes counts.x counts.y now)
        (each-move _ (proposed sizes counts.x counts.y now) (λ one. (refl, λ blind. refl)))
    alike-next (standing.Rounds (rule.Until false count) left place) =
        let now : LinePlace = standing.Rounds (rule.Until false count) left place in
        alike-by (is_over now counts) (decided_move now seen) (decided_move now counts)
        (proposed sizes counts.x counts.y now)
        (each-move _ (proposed sizes counts.x counts.y now) (λ one. (refl, λ blind. refl)))
    alike-next (standing.Rounds (rule.Mute node) left place) =
        let now : LinePlace = standing.Rounds (rule.Mute node) left place in
        alike-by (is_over now counts) (decided_move now seen) (decided_move now counts)
        (proposed sizes counts.x counts.y now)
        (round-moves (λ one. AlikeMoves (decided_move now seen one) (decided_move now counts one)) (is_before place)
        (nat_lt 0 left) (moved (rule.Mute node) _ (next_turn sizes counts.x counts.y place))
        (moved (rule.Mute node) left (next_turn sizes counts.x counts.y place))
        (refl, λ blind. absurd (cc)) (refl, λ blind. absurd (cc)))
    alike-next (standing.Mixed left place draws) =
        let now : LinePlace = standing.Mixed left place draws in
        alike-by (is_over now counts) (decided_move now seen) (decided_move now counts)
        (proposed sizes counts.x counts.y now)
        (round-moves (λ one. AlikeMoves (decided_move now seen one) (decided_move now counts one))
        (is_before_mixed place)
        (nat_lt 0 left) (moved_mixed _ (next_mixed sizes counts.x counts.y place draws))
        (moved_mixed left (next_mixed sizes counts.x counts.y place draws))
        (refl, λ blind. absurd (cc)) (refl, λ blind. absurd (cc)))

  module _ (alive : Player → Bool) (sender : Player → ℕ) where
    pub alike-seen : (now : LinePlace)
        → Alike (next_event sizes now (looked_at counts alive sender (record { sizes = sizes; standing = now })))
        (next_event sizes now counts)
    alike-seen now = alike-next (alive (record { sizes = sizes; standing = now }))
        (sender (record { sizes = sizes; standing = now })) now

    -- the same is planned
    planned-same : (stop : Option ProcessorStop) (lines : List Line) (one other : Option Move) → Alike one other
        → (plan : Plan) → planned_seen sizes (looked_at counts alive sender) stop lines one ≡ Some plan
        → is_blind plan.agenda.standing ≡ true → planned_by sizes counts stop lines other ≡ Some plan
    planned-same stop lines None (Some other) alike plan comes blind = absurd alike
    planned-same stop lines (Some one) None alike plan comes blind = absurd alike
    planned-same stop lines (Some one) (Some other) alike plan comes blind =
        let of : Move → Plan = λ move. record {
          event = move.event;
          agenda = record { standing = move.standing; lines = lines; stop = stop; held_back = None };
        } in
        let is : of one ≡ plan = cc in
        let same : one ≡ other = alike.1 (ap (λ (p : Plan). is_blind p.agenda.standing) is ∙ blind) in
        ap (λ (move : Move). Some (of move)) (sym same) ∙ comes
    planned-same stop [] None None alike plan comes blind = absurd (cc)
    planned-same stop (line ∷ lines) None None alike plan comes blind =
        planned-same stop lines _ _ (alike-seen (begun line)) plan comes blind

    stopped-standing : (stopping : Option ℕ) (plan : Plan)
        → (stopped_by stopping plan).agenda.standing ≡ plan.agenda.standing
    stopped-standing None plan = refl
    stopped-standing (Some processor) plan = refl

    stopped-same : (stopping : Option ℕ) (one other : Option Plan) (plan : Plan)
        → ((found : Plan) → one ≡ Some found → is_blind found.agenda.standing ≡ true → other ≡ Some found)
        → option_map (stopped_by stopping) one ≡ Some plan → is_blind plan.agenda.standing ≡ true
        → option_map (stopped_by stopping) other ≡ Some plan
    stopped-same stopping None other plan same comes blind = absurd (cc)
    stopped-same stopping (Some found) other plan same comes blind =
        let is : stopped_by stopping found ≡ plan = cc in
        let here : is_blind found.agenda.standing ≡ true = ap is_blind (sym (stopped-standing stopping found))
        ∙ ap (λ (p : Plan). is_blind p.agenda.standing) is ∙ blind in
        ap (option_map (stopped_by stopping)) (same found refl here) ∙ comes

    -- the next event is the same where it leaves the line at such a place
    pub upcoming-same : (before : ℕ) (agenda : Agenda) (plan : Plan)
        → upcoming_seen sizes before (looked_at counts alive sender) agenda ≡ Some plan
        → is_blind plan.agenda.standing ≡ true → next_plan sizes before counts agenda ≡ Some plan
    upcoming-same before agenda plan = by agenda.held_back
      where
        by : (held : Option Event)
            → upcoming_seen_after sizes before (looked_at counts alive sender) agenda held ≡ Some plan
            → is_blind plan.agenda.standing ≡ true → upcoming_after sizes before counts agenda held ≡ Some plan
        by (Some event) comes blind = comes
        by None comes blind =
            stopped-same (coming agenda.stop before) _ _ plan
            (planned-same agenda.stop agenda.lines _ _ (alike-seen agenda.standing)) comes blind
