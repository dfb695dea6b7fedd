-- Each event that comes is paid from the stops that a schedule still asks for.
use Rattle.std.proofs.Common.{◌≡◌, ◌≤◌, ℕ, ◌+◌, ◌-◌, ◌&&◌, ◌==◌, Bool, true, false, if◌then◌else◌, List, [], ◌∷◌}
use Rattle.std.proofs.Common.{Option, Some, None, refl, ap, arith}
use Rattle.std.specs.Prelude.{nat_lt}
use Rattle.std.specs.Option.{option_map}
use Rattle.std.proofs.lemmas.Bool.{ltb-true}
use Rattle.schedule.specs.declared.event.Event.{Event}
use Rattle.schedule.specs.declared.event.Event.TheVariants as event
use Rattle.schedule.specs.declared.event.Counts.{Counts}
use Rattle.schedule.specs.declared.line.Line.{Line}
use Rattle.schedule.specs.declared.line.Line.TheVariants.{One, Many, Drain, Mix, Mute, Until}
use Rattle.player.specs.declared.standing.Move.{Move}
use Rattle.player.specs.declared.standing.Rule.TheVariants as rule
use Rattle.player.specs.declared.standing.Sizes.{Sizes}
use Rattle.player.specs.declared.standing.LinePlace.{LinePlace}
use Rattle.player.specs.declared.standing.LinePlace.TheVariants as standing
use Rattle.player.specs.declared.stop.ProcessorStop.{ProcessorStop}
use Rattle.player.specs.Lines.{begun, event_by_counts, decided_move, is_before, is_before_mixed, is_over, moved}
use Rattle.player.specs.Lines.{moved_mixed}
use Rattle.player.specs.Lines.{event_when_muted, next_event, proposed, event_when_spared}
use Rattle.player.specs.Rounds.{next_turn}
use Rattle.player.specs.Mixes.{next_mixed}
use Rattle.schedule_runs.specs.Runs.{Agenda, Plan, coming, stopped_by}
use Rattle.schedule_runs.specs.schedule_loop.specs.Plans.{Sight, next_seen, planned_seen, upcoming_seen}
use Rattle.schedule_runs.specs.schedule_loop.specs.Plans.{upcoming_seen_after}
use Rattle.single_stops.specs.StopsAsked.{stops_in, stops_of, stops_of_lines, stops_of_words}
use Rattle.single_stops.proofs.Turns.{mixed-calm, turn-calm}

-- the stops that are left of a line
abbrev stops_left : LinePlace → ℕ
stops_left (standing.Event event left) = stops_in event left
stops_left _ = 0

begun-stops : (line : Line) → stops_left (begun line) ≡ stops_of line
begun-stops (One event) = refl
begun-stops (Many event times) = refl
begun-stops (Drain rounds) = refl
begun-stops (Mix start rounds) = refl
begun-stops (Mute node rounds) = refl
begun-stops (Until writes count rounds) = refl

-- the stop that is held back, if it is one
abbrev held_stops : Option Event → ℕ
held_stops None = 0
held_stops (Some event) = stops_in event 1

-- the stops that a schedule still asks for
abbrev pub to_come : Agenda → ℕ
to_come agenda =
    stops_left agenda.standing + stops_of_lines agenda.lines + stops_of_words agenda.stop + held_stops agenda.held_back

-- Lines

-- of so many stops the move takes its own and leaves its line enough
abbrev IsPaidMove : ℕ → Option Move → Type 0
IsPaidMove most None = Unit {0}
IsPaidMove most (Some move) = stops_in move.event 1 + stops_left move.standing ≤ most

muted-stops : (node : ℕ) (counts : Counts) (event : Event)
    → stops_in (event_when_muted node counts event) 1 ≡ stops_in event 1
muted-stops node counts (event.Deliver bus k) = by (counts.alive && (counts.sender == node))
  where
    by : (test : Bool) → stops_in (if test then event.Lose bus k else event.Deliver bus k) 1 ≡ 0
    by true = refl
    by false = refl
muted-stops node counts (event.Run place) = refl
muted-stops node counts (event.Enter place) = refl
muted-stops node counts (event.Lose bus k) = refl
muted-stops node counts (event.Repeat bus k) = refl
muted-stops node counts (event.Tick node_told) = refl
muted-stops node counts (event.Fail processor) = refl
muted-stops node counts (event.Reload processor) = refl
muted-stops node counts (event.Drive turn) = refl

spared-stops : (counts : Counts) (event : Event) → stops_in (event_when_spared counts event) 1 ≡ stops_in event 1
spared-stops counts (event.Lose bus k) = by counts.alive
  where
    by : (test : Bool) → stops_in (if test then event.Deliver bus k else event.Lose bus k) 1 ≡ 0
    by true = refl
    by false = refl
spared-stops counts (event.Run place) = refl
spared-stops counts (event.Enter place) = refl
spared-stops counts (event.Deliver bus k) = refl
spared-stops counts (event.Repeat bus k) = refl
spared-stops counts (event.Tick node) = refl
spared-stops counts (event.Fail processor) = refl
spared-stops counts (event.Reload processor) = refl
spared-stops counts (event.Drive turn) = refl

decided-stops : (at : LinePlace) (counts : Counts) (event : Event)
    → stops_in (event_by_counts at counts event) 1 ≡ stops_in event 1
decided-stops (standing.Rounds (rule.Mute node) left place) counts event = muted-stops node counts event
decided-stops (standing.Mixed left place draws) counts event = spared-stops counts event
decided-stops (standing.Rounds rule.Drain left place) counts event = refl
decided-stops (standing.Rounds (rule.Until writes count) left place) counts event = refl
decided-stops (standing.Event one left) counts event = refl
decided-stops standing.Ended counts event = refl

one-less : (event : Event) (left : ℕ) → 1 ≤ left → stops_in event 1 + stops_in event (left - 1) ≤ stops_in event left
one-less (event.Fail processor) left some = omega arith
one-less (event.Run place) left some = omega arith
one-less (event.Enter place) left some = omega arith
one-less (event.Deliver bus k) left some = omega arith
one-less (event.Lose bus k) left some = omega arith
one-less (event.Repeat bus k) left some = omega arith
one-less (event.Tick node) left some = omega arith
one-less (event.Reload processor) left some = omega arith
one-less (event.Drive turn) left some = omega arith

paid-where : (most : ℕ) (test : Bool) (move : Move) → (test ≡ true → IsPaidMove most (Some move))
    → IsPaidMove most (if test then Some move else None)
paid-where most true move paid = paid refl
paid-where most false move paid = tt

proposed-paid : (sizes : Sizes) (x y : ℕ) (at : LinePlace) → IsPaidMove (stops_left at) (proposed sizes x y at)
proposed-paid sizes x y standing.Ended = tt
proposed-paid sizes x y (standing.Event event left) =
    paid-where (stops_in event left) (nat_lt 0 left)
    (record { event = event; standing = standing.Event event (left - 1) })
    (λ some. one-less event left (ltb-true 0 left some))
proposed-paid sizes x y (standing.Rounds rule left place) = by (is_before place)
  where
    none : (more : ℕ) → IsPaidMove 0 (Some (moved rule more (next_turn sizes x y place)))
    none more = let calm = turn-calm sizes x y place in omega (arith, calm)

    by : (before : Bool) → IsPaidMove 0
        (if before then (if nat_lt 0 left then Some (moved rule (left - 1) (next_turn sizes x y place)) else None) else
        Some (moved rule left (next_turn sizes x y place)))
    by true = paid-where 0 (nat_lt 0 left) (moved rule (left - 1) (next_turn sizes x y place)) (λ some. none (left - 1))
    by false = none left
proposed-paid sizes x y (standing.Mixed left place draws) = by (is_before_mixed place)
  where
    none : (more : ℕ) → IsPaidMove 0 (Some (moved_mixed more (next_mixed sizes x y place draws)))
    none more = let calm = mixed-calm sizes x y place draws in omega (arith, calm)

    by : (before : Bool) → IsPaidMove 0
        (if before then (if nat_lt 0 left then Some (moved_mixed (left - 1) (next_mixed sizes x y place draws)) else
        None) else Some (moved_mixed left (next_mixed sizes x y place draws)))
    by true = paid-where 0 (nat_lt 0 left) (moved_mixed (left - 1) (next_mixed sizes x y place draws))
        (λ some. none (left - 1))
    by false = none left

decided-paid : (most : ℕ) (at : LinePlace) (counts : Counts) (move : Option Move) → IsPaidMove most move
    → IsPaidMove most (option_map (decided_move at counts) move)
decided-paid most at counts None paid = tt
decided-paid most at counts (Some move) paid =
    let same = decided-stops at counts move.event in omega (arith, same, paid)

next-paid : (sizes : Sizes) (at : LinePlace) (counts : Counts) → IsPaidMove (stops_left at) (next_event sizes at counts)
next-paid sizes at counts = by (is_over at counts)
  where
    by : (over : Bool) → IsPaidMove (stops_left at)
        (if over then None else option_map (decided_move at counts) (proposed sizes counts.x counts.y at))
    by true = tt
    by false = decided-paid (stops_left at) at counts (proposed sizes counts.x counts.y at)
        (proposed-paid sizes counts.x counts.y at)

-- Schedules

-- of so many stops the plan takes its own and leaves the schedule enough; the stop of the words is still to come
abbrev IsPaidPlan : ℕ → Option ProcessorStop → Option Plan → Type 0
IsPaidPlan most stop None = Unit {0}
IsPaidPlan most stop (Some plan) = (stops_in plan.event 1 + to_come plan.agenda ≤ most) × (plan.agenda.stop ≡ stop)

paid-more : (few most : ℕ) (stop : Option ProcessorStop) (plan : Option Plan) → few ≤ most → IsPaidPlan few stop plan
    → IsPaidPlan most stop plan
paid-more few most stop None more paid = tt
paid-more few most stop (Some plan) more paid = let within = paid.0 in (omega (arith, within, more), paid.1)

next-seen-paid : (sizes : Sizes) (sight : Sight) (at : LinePlace)
    → IsPaidMove (stops_left at) (next_seen sizes sight at)
next-seen-paid sizes sight at = next-paid sizes at (sight (record { sizes = sizes; standing = at }))

planned-paid : (sizes : Sizes) (sight : Sight) (stop : Option ProcessorStop) (most : ℕ) (lines : List Line)
    (move : Option Move) → IsPaidMove most move
    → IsPaidPlan (most + stops_of_lines lines + stops_of_words stop) stop (planned_seen sizes sight stop lines move)
planned-paid sizes sight stop most lines (Some move) paid = (omega (arith, paid), refl)
planned-paid sizes sight stop most [] None paid = tt
planned-paid sizes sight stop most (line ∷ lines) None paid =
    let same = begun-stops line in
    paid-more (stops_left (begun line) + stops_of_lines lines + stops_of_words stop)
    (most + (stops_of line + stops_of_lines lines) + stops_of_words stop) stop
    (planned_seen sizes sight stop lines (next_seen sizes sight (begun line))) (omega (arith, same))
    (planned-paid sizes sight stop (stops_left (begun line)) lines (next_seen sizes sight (begun line))
    (next-seen-paid sizes sight (begun line)))

-- the same of a plan that a stop may come before
abbrev pub IsPaid : ℕ → Option Plan → Type 0
IsPaid most None = Unit {0}
IsPaid most (Some plan) = stops_in plan.event 1 + to_come plan.agenda ≤ most

stopped-paid : (most before : ℕ) (stop : Option ProcessorStop) (plan : Option Plan) → IsPaidPlan most stop plan
    → IsPaid most (option_map (stopped_by (coming stop before)) plan)
stopped-paid most before stop None paid = tt
stopped-paid most before None (Some plan) paid = paid.0
stopped-paid most before (Some stop) (Some plan) paid = by (stop.after == before)
  where
    by : (now : Bool) → IsPaid most (Some (stopped_by (if now then Some stop.processor else None) plan))
    by true = let within = paid.0 in let one = ap stops_of_words paid.1 in omega (arith, within, one)
    by false = paid.0

pub upcoming-paid : (sizes : Sizes) (before : ℕ) (sight : Sight) (agenda : Agenda)
    → IsPaid (to_come agenda) (upcoming_seen sizes before sight agenda)
upcoming-paid sizes before sight agenda = by agenda.held_back refl
  where
    by : (held : Option Event) → agenda.held_back ≡ held
        → IsPaid (to_come agenda) (upcoming_seen_after sizes before sight agenda held)
    by (Some event) is = let one = ap held_stops is in omega (arith, one)
    by None is =
        stopped-paid (to_come agenda) before agenda.stop _
        (paid-more (stops_left agenda.standing + stops_of_lines agenda.lines + stops_of_words agenda.stop)
        (to_come agenda) agenda.stop _ (omega arith)
        (planned-paid sizes sight agenda.stop (stops_left agenda.standing) agenda.lines
        (next_seen sizes sight agenda.standing) (next-seen-paid sizes sight agenda.standing)))
