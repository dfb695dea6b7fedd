-- A schedule asks for no more events than are left of it at first.
use Rattle.std.proofs.Common.{◌≡◌, ◌≤◌, ℕ, ◌+◌, ◌==◌, Bool, true, false, if◌then◌else◌, List, [], ◌∷◌, ◌++◌, length}
use Rattle.std.proofs.Common.{Option, Some, None, option_map, refl, ap, subst, arith, length-append}
use Rattle.schedule.specs.declared.event.Event.{Event}
use Rattle.schedule.specs.declared.line.Line.{Line}
use Rattle.player.specs.declared.player.Player.{Player}
use Rattle.player.specs.declared.standing.Sizes.{Sizes}
use Rattle.player.specs.declared.standing.LinePlace.{LinePlace}
use Rattle.player.specs.declared.standing.Move.{Move}
use Rattle.player.specs.declared.stop.ProcessorStop.{ProcessorStop}
use Rattle.player.specs.Lines.{begun}
use Rattle.agendas.specs.Agendas.{Agenda, Plan, coming, stopped_by}
use Rattle.schedule_loop.specs.Plans.{PlaysSeen, Sight, next_seen, planned_seen, seen_none, seen_on}
use Rattle.schedule_loop.specs.Plans.{upcoming_seen, upcoming_seen_after}
use Rattle.line_lengths.specs.Lengths.{KeepsTo, Room, most_events, most_in_lines, most_in_round, stops_of_words}
use Rattle.line_lengths.proofs.Lines.{left_in, MoveTakes, next-takes, begun-left}

abbrev held_back : Option Event → ℕ
held_back None = 0
held_back (Some event) = 1

-- what is left of a schedule: of its line, of the lines after it, the stop, and what was held back
abbrev left_of : Sizes → Room → Agenda → ℕ
left_of sizes room agenda = left_in sizes room agenda.standing + most_in_lines (most_in_round sizes room) agenda.lines
    + stops_of_words agenda.stop + held_back agenda.held_back

-- a plan by the lines takes one of so many; the stop stays, and nothing is held back
abbrev LinesTake : Sizes → Room → ℕ → Option ProcessorStop → Option Plan → Type 0
LinesTake sizes room before stop None = Unit {0}
LinesTake sizes room before stop (Some plan) =
    (left_in sizes room plan.agenda.standing + most_in_lines (most_in_round sizes room) plan.agenda.lines + 1 ≤ before)
    × (plan.agenda.stop ≡ stop)
    × (plan.agenda.held_back ≡ None)

lines-more : (sizes : Sizes) (room : Room) (before more : ℕ) (stop : Option ProcessorStop) (plan : Option Plan)
    → before ≤ more → LinesTake sizes room before stop plan
    → LinesTake sizes room more stop plan
lines-more sizes room before more stop None less takes = tt
lines-more sizes room before more stop (Some plan) less takes =
    (let one = takes.0 in omega (arith, one, less), takes.1, takes.2)

module _ (sizes : Sizes) (room : Room) where
  next-seen-takes : (sight : Sight) → ((player : Player) → KeepsTo room (sight player)) → (standing : LinePlace)
      → MoveTakes sizes room (left_in sizes room standing) (next_seen sizes sight standing)
  next-seen-takes sight few standing =
      next-takes sizes room standing (sight (record { sizes = sizes; standing = standing })) (few _)

  module _ (sight : Sight) (few : (player : Player) → KeepsTo room (sight player)) where
    lines-take : (stop : Option ProcessorStop) (lines : List Line) (left : ℕ) (move : Option Move)
        → MoveTakes sizes room left move
        → LinesTake sizes room (left + most_in_lines (most_in_round sizes room) lines) stop
        (planned_seen sizes sight stop lines move)
    lines-take stop lines left (Some move) takes = (omega (arith, takes), refl, refl)
    lines-take stop [] left None takes = tt
    lines-take stop (line ∷ lines) left None takes =
        let all = begun-left sizes room line in
        lines-more sizes room (left_in sizes room (begun line) + most_in_lines (most_in_round sizes room) lines) _ stop
        _ (omega (arith, all))
        (lines-take stop lines (left_in sizes room (begun line)) (next_seen sizes sight (begun line))
        (next-seen-takes sight few (begun line)))

    -- a plan takes one of so many
    abbrev PlanTakes : ℕ → Option Plan → Type 0
    PlanTakes before None = Unit {0}
    PlanTakes before (Some plan) = left_of sizes room plan.agenda + 1 ≤ before

    stop-takes : (before so_far : ℕ) (stop : Option ProcessorStop) (plan : Option Plan)
        → LinesTake sizes room before stop plan
        → PlanTakes (before + stops_of_words stop + 0) (option_map (stopped_by (coming stop so_far)) plan)
    stop-takes before so_far stop None takes = tt
    stop-takes before so_far None (Some plan) takes =
        let one = takes.0 in
        let stays = ap stops_of_words takes.1 in
        let free = ap held_back takes.2 in
        omega (arith, one, stays, free)
    stop-takes before so_far (Some stop) (Some plan) takes = by (stop.after == so_far)
      where
        by : (test : Bool) → PlanTakes (before + 1 + 0)
            (Some (stopped_by (if test then Some stop.processor else None) plan))
        by true = let one = takes.0 in omega (arith, one)
        by false =
            let one = takes.0 in
            let stays = ap stops_of_words takes.1 in
            let free = ap held_back takes.2 in
            omega (arith, one, stays, free)

    upcoming-takes : (so_far : ℕ) (agenda : Agenda)
        → PlanTakes (left_of sizes room agenda) (upcoming_seen sizes so_far sight agenda)
    upcoming-takes so_far agenda = by agenda.held_back
      where
        by : (held : Option Event)
            → PlanTakes (left_in sizes room agenda.standing + most_in_lines (most_in_round sizes room) agenda.lines
            + stops_of_words agenda.stop + held_back held)
            (upcoming_seen_after sizes so_far sight agenda held)
        by (Some event) = omega arith
        by None =
            stop-takes
            (left_in sizes room agenda.standing + most_in_lines (most_in_round sizes room) agenda.lines) so_far
            agenda.stop
            (planned_seen sizes sight agenda.stop agenda.lines (next_seen sizes sight agenda.standing))
            (lines-take agenda.stop agenda.lines (left_in sizes room agenda.standing)
            (next_seen sizes sight agenda.standing) (next-seen-takes sight few agenda.standing))

module _ {S : Type 0} (sizes : Sizes) (room : Room) (sight : S → Sight) (goes : S → Event → S → Type 0) (start : S)
    (lines : List Line) (stop : Option ProcessorStop) where
  -- where no state that is reached counts more packets than there is room for
  module _ (few : (events : List Event) (agenda : Agenda) (s : S)
      → PlaysSeen sizes sight goes start lines stop events agenda s → (player : Player)
      → KeepsTo room (sight s player)) where
    played-left : (events : List Event) (agenda : Agenda) (s : S)
        → PlaysSeen sizes sight goes start lines stop events agenda s
        → length events + left_of sizes room agenda ≤ most_events sizes room lines stop
    played-left _ _ _ seen_none = omega arith
    played-left _ _ _ (seen_on {events = events} {agenda = agenda} {s = s} plan before comes goes_on) =
        let most = played-left events agenda s before in
        let takes = subst (PlanTakes sizes room (sight s) (few events agenda s before) (left_of sizes room agenda))
        comes
        (upcoming-takes sizes room (sight s) (few events agenda s before) (length events) agenda) in
        let count : length (events ++ plan.event ∷ []) ≡ length events + 1 =
        length-append events (plan.event ∷ []) in
        omega (arith, most, takes, count)

    pub so-many : (events : List Event) (agenda : Agenda) (s : S)
        → PlaysSeen sizes sight goes start lines stop events agenda s
        → length events ≤ most_events sizes room lines stop
    so-many events agenda s plays = let most = played-left events agenda s plays in omega (arith, most)
