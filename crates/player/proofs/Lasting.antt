-- A line ends at most as many rounds as it has.
use Rattle.std.proofs.Common.{◌≡◌, ℕ, ◌+◌, ◌-◌, ◌≤◌, ◌==◌, ◌&&◌, Bool, true, false, nat_lt, List, [], ◌∷◌, ◌++◌, Option}
use Rattle.std.proofs.Common.{Some, None, option_map, if◌then◌else◌, refl, arith}
use Rattle.std.proofs.lemmas.Bool.{ltb-true}
use Rattle.schedule.specs.declared.event.Event.{Event}
use Rattle.schedule.specs.declared.event.Event.TheVariants.{Run, Enter, Deliver, Lose, Repeat, Tick, Fail, Reload}
use Rattle.schedule.specs.declared.event.Event.TheVariants.{Drive}
use Rattle.schedule.specs.declared.event.Counts.{Counts}
use Rattle.player.specs.declared.standing.Sizes.{Sizes}
use Rattle.player.specs.declared.standing.Rule.TheVariants.{Drain, Mute, Until}
use Rattle.player.specs.declared.standing.Place.{Place}
use Rattle.player.specs.declared.standing.Place.TheVariants as place
use Rattle.player.specs.declared.standing.MixedPlace.{MixedPlace}
use Rattle.player.specs.declared.standing.MixedPlace.TheVariants as mixed
use Rattle.player.specs.declared.standing.LinePlace.{LinePlace}
use Rattle.player.specs.declared.standing.LinePlace.TheVariants as standing
use Rattle.player.specs.declared.standing.Move.{Move}
use Rattle.player.specs.Rounds.{next_turn}
use Rattle.player.specs.Mixes.{next_mixed}
use Rattle.player.specs.Lines.{moved, moved_mixed, proposed, is_over, event_when_muted, event_when_spared}
use Rattle.player.specs.Lines.{event_by_counts, decided_move, next_event}
use Rattle.player.specs.Lines.{stands_after}
use Rattle.player.specs.Played.{told, events_from}
use Rattle.player.specs.Ended.{rounds_of_event, rounds_ended, under_way, under_way_mixed, rounds_left}
use Rattle.player.proofs.Rounds.{IsOfOneRound, turn-one}
use Rattle.player.proofs.MixedRounds.{IsOfOneMixed, mixed-one}

no-round : (lost : Bool) (a b : Event) → rounds_of_event a ≡ 0 → rounds_of_event b ≡ 0
    → rounds_of_event (if lost then a else b) ≡ 0
no-round true a b is other = is
no-round false a b is other = other

muted-rounds : (node : ℕ) (counts : Counts) (event : Event)
    → rounds_of_event (event_when_muted node counts event) ≡ rounds_of_event event
muted-rounds node counts (Run process) = refl
muted-rounds node counts (Enter terminal) = refl
muted-rounds node counts (Deliver bus k) =
    no-round (counts.alive && (counts.sender == node)) (Lose bus k) (Deliver bus k) refl refl
muted-rounds node counts (Lose bus k) = refl
muted-rounds node counts (Repeat bus k) = refl
muted-rounds node counts (Tick tick) = refl
muted-rounds node counts (Fail processor) = refl
muted-rounds node counts (Reload processor) = refl
muted-rounds node counts (Drive event) = refl

spared-rounds : (counts : Counts) (event : Event)
    → rounds_of_event (event_when_spared counts event) ≡ rounds_of_event event
spared-rounds counts (Run process) = refl
spared-rounds counts (Enter terminal) = refl
spared-rounds counts (Deliver bus k) = refl
spared-rounds counts (Lose bus k) = no-round counts.alive (Deliver bus k) (Lose bus k) refl refl
spared-rounds counts (Repeat bus k) = refl
spared-rounds counts (Tick tick) = refl
spared-rounds counts (Fail processor) = refl
spared-rounds counts (Reload processor) = refl
spared-rounds counts (Drive event) = refl

decided-rounds : (standing : LinePlace) (counts : Counts) (event : Event)
    → rounds_of_event (event_by_counts standing counts event) ≡ rounds_of_event event
decided-rounds standing.Ended counts event = refl
decided-rounds (standing.Event again left) counts event = refl
decided-rounds (standing.Rounds Drain left place) counts event = refl
decided-rounds (standing.Rounds (Mute node) left place) counts event = muted-rounds node counts event
decided-rounds (standing.Rounds (Until writes count) left place) counts event = refl
decided-rounds (standing.Mixed left place draws) counts event = spared-rounds counts event

-- what a move ends and leaves
abbrev pub ended_and_left : Option Move → ℕ
ended_and_left None = 0
ended_and_left (Some move) = rounds_of_event move.event + rounds_left move.standing

none : (n : ℕ) → 0 ≤ n
none n = omega arith

tick-one : (last : Bool) → (if last then 1 else 0) ≤ 1
tick-one true = omega arith
tick-one false = omega arith

at-most-one : (event : Event) → rounds_of_event event ≤ 1
at-most-one (Run process) = none 1
at-most-one (Enter terminal) = none 1
at-most-one (Deliver bus k) = none 1
at-most-one (Lose bus k) = none 1
at-most-one (Repeat bus k) = none 1
at-most-one (Tick node) = tick-one (node == 16)
at-most-one (Fail processor) = none 1
at-most-one (Reload processor) = none 1
at-most-one (Drive event) = none 1

begun-kept : (left : ℕ) (move : Move) → rounds_of_event move.event + rounds_left move.standing ≤ left - 1 + 1
    → ended_and_left (if nat_lt 0 left then Some move else None) ≤ left
begun-kept left move one = by (nat_lt 0 left) refl
  where
    by : (b : Bool) → nat_lt 0 left ≡ b → ended_and_left (if b then Some move else None) ≤ left
    by true is = let some = ltb-true 0 left is in omega (arith, some, one)
    by false is = none left

within : (ended under left : ℕ) → ended + under ≤ 1 → ended + (left + under) ≤ left + 1
within ended under left one = omega (arith, one)

before : (n left : ℕ) → n ≤ left → n ≤ left + 0
before n left low = omega (arith, low)

proposed-kept : (sizes : Sizes) (x y : ℕ) (standing : LinePlace) → sizes.processors ≤ 16
    → ended_and_left (proposed sizes x y standing) ≤ rounds_left standing
proposed-kept sizes x y standing.Ended few = none 0
proposed-kept sizes x y (standing.Event event left) few =
    begun-kept left (record { event = event; standing = standing.Event event (left - 1) })
    (let one = at-most-one event in omega (arith, one))
proposed-kept sizes x y (standing.Rounds rule left stand) few = by stand (turn-one sizes x y stand few)
  where
    by : (stand : Place) → IsOfOneRound (next_turn sizes x y stand)
        → ended_and_left (proposed sizes x y (standing.Rounds rule left stand)) ≤ left + under_way stand
    by place.Before one = before _ left (begun-kept left (moved rule (left - 1) (next_turn sizes x y place.Before))
        (within _ _ (left - 1) one))
    by (place.Enters terminal) one = within _ _ left one
    by (place.Runs process) one = within _ _ left one
    by (place.Delivers bus packets) one = within _ _ left one
    by (place.Ticks node) one = within _ _ left one
proposed-kept sizes x y (standing.Mixed left stand draws) few = by stand (mixed-one sizes x y stand draws few)
  where
    by : (stand : MixedPlace) → IsOfOneMixed (next_mixed sizes x y stand draws)
        → ended_and_left (proposed sizes x y (standing.Mixed left stand draws)) ≤ left + under_way_mixed stand
    by mixed.Before one = before _ left (begun-kept left
        (moved_mixed (left - 1) (next_mixed sizes x y mixed.Before draws)) (within _ _ (left - 1) one))
    by (mixed.Enters terminal) one = within _ _ left one
    by (mixed.Runs next again) one = within _ _ left one
    by (mixed.Delivers bus packets) one = within _ _ left one
    by (mixed.Repeated bus k packets) one = within _ _ left one
    by (mixed.Ticks node) one = within _ _ left one

next-kept : (sizes : Sizes) (standing : LinePlace) (counts : Counts) → sizes.processors ≤ 16
    → ended_and_left (next_event sizes standing counts) ≤ rounds_left standing
next-kept sizes standing counts few =
    by (is_over standing counts) (proposed sizes counts.x counts.y standing)
    (proposed-kept sizes counts.x counts.y standing few)
  where
    by : (over : Bool) (next : Option Move) → ended_and_left next ≤ rounds_left standing
        → ended_and_left (if over then None else option_map (decided_move standing counts) next) ≤ rounds_left standing
    by true next low = none (rounds_left standing)
    by false None low = none (rounds_left standing)
    by false (Some next) low =
        let same : rounds_of_event (event_by_counts standing counts next.event) ≡ rounds_of_event next.event =
        decided-rounds standing counts next.event in
        omega (arith, low, same)

told-ended : (move : Option Move) (events : List Event) → rounds_ended events ≤ rounds_left (stands_after move)
    → rounds_ended (told move ++ events) ≤ ended_and_left move
told-ended None events low = low
told-ended (Some move) events low = omega (arith, low)

pub rounds-kept : (sizes : Sizes) (standing : LinePlace) (counts : List Counts) → sizes.processors ≤ 16
    → rounds_ended (events_from sizes standing counts) ≤ rounds_left standing
rounds-kept sizes standing [] few = none (rounds_left standing)
rounds-kept sizes standing (counts ∷ more) few =
    let next = next_event sizes standing counts in
    let later = told-ended next (events_from sizes (stands_after next) more)
    (rounds-kept sizes (stands_after next) more few) in
    let now = next-kept sizes standing counts few in
    omega (arith, later, now)
