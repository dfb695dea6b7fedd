-- Why a stretch from the beginning of a round to the end of a later one of its line is made of whole rounds.
use Rattle.std.proofs.Common.{◌≡◌, ◌≤◌, ◌<◌, ◌⊎◌, inl, inr, ℕ, zero, suc, ◌+◌, ◌∙◌, true, false, refl, List, []}
use Rattle.std.proofs.Common.{◌∷◌, length}
use Rattle.std.proofs.Common.{Option, Some, None, option_map, ap, sym, subst, arith}
use Rattle.schedule.specs.declared.bus_name.BusName.{BusName}
use Rattle.schedule.specs.declared.bus_name.BusName.TheVariants as bus
use Rattle.schedule.specs.declared.event.Counts.{Counts}
use Rattle.schedule.specs.declared.event.Event.{Event}
use Rattle.schedule.specs.declared.event.Event.TheVariants.{Fail}
use Rattle.schedule.specs.declared.line.Line.{Line}
use Rattle.player.specs.declared.stop.ProcessorStop.{ProcessorStop}
use Rattle.player.specs.declared.standing.Sizes.{Sizes}
use Rattle.player.specs.declared.standing.Place.{Place}
use Rattle.player.specs.declared.standing.Place.TheVariants as place
use Rattle.player.specs.declared.standing.Rule.{Rule}
use Rattle.player.specs.declared.standing.LinePlace.{LinePlace}
use Rattle.player.specs.declared.standing.LinePlace.TheVariants as standing
use Rattle.player.specs.Ended.{under_way}
use Rattle.player.specs.Lines.{begun, is_before, next_event}
use Rattle.agendas.specs.Agendas.{Agenda, Plan, planned_by, coming, stopped_by, upcoming_after, next_plan}
use Rattle.round_laws.specs.Buses.{HasBuses}
use Rattle.round_laws.specs.Rounds.{TurnsIn, InRound, begins, goes_on, stops, AreRounds, no_round, one_more}
use Rattle.round_laws.specs.Stretches.{is_drain, GoesOn, at_once, plays, IsNextLine, itself, later, BeginsRound}
use Rattle.round_laws.specs.Stretches.{EndsRound}
use Rattle.round_laws.specs.Stretches.{CountsBuses}
use Rattle.round_laws.specs.Turns.{Turns, enters, runs, delivers_x, delivers_y, ticks, ends}
use Rattle.round_laws.proofs.Plans.{IfPlan, plan-is, stop-or-not, planned-fewer, LinePlans, its_turn, past_it}
use Rattle.round_laws.proofs.Plans.{line-plans}

-- where a stretch stands that began with a round of a line: between two rounds of it; in one, with the state in which
-- that began; in one whose next event a stop holds back; or behind the line
data Stage {S P : Type 0} (sizes : Sizes) (buses : S → BusName → List P) (goes : S → Event → S → Type 0) (kind : Rule)
    (all : ℕ) (rest : List Line) (start s : S) : LinePlace → List Line → Option Event → Type 0 where
  between : (left made : ℕ) → left + made ≡ all → AreRounds sizes buses goes start made s
      → Stage sizes buses goes kind all rest start s (standing.Rounds kind left place.Before) rest None
  within : (left made : ℕ) (first : S) (came : BusName → List P) (at : Place) → is_before at ≡ false
      → left + 1 + made ≡ all → AreRounds sizes buses goes start made first
      → InRound sizes buses goes first came at s
      → Stage sizes buses goes kind all rest start s (standing.Rounds kind left at) rest None
  held_up : (left made : ℕ) (first : S) (came : BusName → List P) (from to : Place) (event : Event)
      → left + 1 + made ≡ all → AreRounds sizes buses goes start made first
      → InRound sizes buses goes first came from s → TurnsIn sizes buses s from event to
      → Stage sizes buses goes kind all rest start s (standing.Rounds kind left to) rest (Some event)
  behind : {now : LinePlace} {lines : List Line} {held : Option Event} → length lines < length rest
      → Stage sizes buses goes kind all rest start s now lines held

-- a turn is played
turned : {S P : Type 0} (sizes : Sizes) (buses : S → BusName → List P) (goes : S → Event → S → Type 0) (kind : Rule)
    (all : ℕ) (rest : List Line) (start first s next : S) (left made : ℕ) (came : BusName → List P) (from to : Place)
    (event : Event) → left + 1 + made ≡ all → AreRounds sizes buses goes start made first
    → InRound sizes buses goes first came from s → TurnsIn sizes buses s from event to → goes s event next
    → Stage sizes buses goes kind all rest start next (standing.Rounds kind left to) rest None
turned {S} {P} sizes buses goes kind all rest start first s next left made came from to event count rounds round turn g
    =
    by event to turn g
  where
    on : (event : Event) (to : Place) → is_before to ≡ false → TurnsIn sizes buses s from event to → goes s event next
        → Stage sizes buses goes kind all rest start next (standing.Rounds kind left to) rest None
    on event to more turn g = within left made first _ to more count rounds (goes_on event to round turn more g)

    by : (event : Event) (to : Place) → TurnsIn sizes buses s from event to → goes s event next
        → Stage sizes buses goes kind all rest start next (standing.Rounds kind left to) rest None
    by _ _ (enters terminal early low) g = on _ _ refl (enters terminal early low) g
    by _ _ (runs process early low) g = on _ _ refl (runs process early low) g
    by _ _ (delivers_x some is at) g = on _ _ refl (delivers_x some is at) g
    by _ _ (delivers_y some none is at) g = on _ _ refl (delivers_y some none is at) g
    by _ _ (ticks node low none at) g = on _ _ refl (ticks node low none at) g
    by _ _ (ends none past) g = between left (suc made) (omega (arith, count))
        (one_more rounds (record {
          came = came;
          from = from;
          last = s;
          made = round;
          turn = ends none past;
          ended = g;
        }))

-- what a plan leads to
abbrev Onward : {S P : Type 0} → Sizes → (S → BusName → List P) → (S → Event → S → Type 0) → Rule → ℕ → List Line
    → S → S
    → Plan → Type 0
Onward {S} {P} sizes buses goes kind all rest start s plan = (next : S) → goes s plan.event next
    → Stage sizes buses goes kind all rest start next plan.agenda.standing plan.agenda.lines plan.agenda.held_back

pub as-turn : {S P : Type 0} (sizes : Sizes) (buses : S → BusName → List P) (counts : S → Counts)
    → CountsBuses buses counts → (s : S) (from : Place) (event : Event) (to : Place)
    → Turns sizes (counts s).x (counts s).y from event to
    → TurnsIn sizes buses s from event to
as-turn sizes buses counts counted s from event to turn =
    subst (λ x. Turns sizes x (length (buses s bus.Y)) from event to) (counted s).0
    (subst (λ y. Turns sizes (counts s).x y from event to) (counted s).1 turn)

-- what comes of a round of the line
in-line : {S P : Type 0} (sizes : Sizes) (buses : S → BusName → List P) (counts : S → Counts)
    (goes : S → Event → S → Type 0) → HasBuses buses goes → CountsBuses buses counts
    → (kind : Rule) (all : ℕ) (rest : List Line) (start first s : S) (left made : ℕ) (came : BusName → List P)
    (at : Place)
    → left + under_way at + made ≡ all → AreRounds sizes buses goes start made first
    → InRound sizes buses goes first came at s → is_drain kind ≡ true → (before : ℕ) (stop : Option ProcessorStop)
    → IfPlan (Onward sizes buses goes kind all rest start s) (next_plan sizes before (counts s)
    (record { standing = standing.Rounds kind left at; lines = rest; stop = stop; held_back = None }))
in-line {S} {P} sizes buses counts goes has counted kind all rest start first s left made came at count rounds round
    drain
    before stop =
    stop-or-not (LinePlans sizes (counts s) kind left at rest) (Onward sizes buses goes kind all rest start s) own
    stopped
    (coming stop before) (planned_by sizes (counts s) stop rest (next_event sizes (standing.Rounds kind left at) (counts
    s)))
    (line-plans sizes (counts s) kind left at rest drain stop)
  where
    own : (plan : Plan) → LinePlans sizes (counts s) kind left at rest plan
        → Onward sizes buses goes kind all rest start s plan
    own _ (its_turn after to event stop turn more) next g =
        turned sizes buses goes kind all rest start first s next after made came at to event
        (omega (arith, count, more)) rounds round (as-turn sizes buses counts counted s at event to turn) g
    own plan (past_it low) next g = behind low

    stopped : (processor : ℕ) (plan : Plan) → LinePlans sizes (counts s) kind left at rest plan
        → Onward sizes buses goes kind all rest start s (stopped_by (Some processor) plan)
    stopped processor _ (its_turn after to event stop turn more) next g =
        held_up after made first came at to event (omega (arith, count, more)) rounds (stops processor round g)
        (subst (λ l. Turns sizes (length l) (length (buses next bus.Y)) at event to)
        (sym (has s (Fail processor) next g bus.X))
        (subst (λ l. Turns sizes (length (buses s bus.X)) (length l) at event to)
        (sym (has s (Fail processor) next g bus.Y)) (as-turn sizes buses counts counted s at event to turn)))
    stopped processor plan (past_it low) next g = behind low

-- and behind the line
past-line : {S P : Type 0} (sizes : Sizes) (buses : S → BusName → List P) (counts : S → Counts)
    (goes : S → Event → S → Type 0) (kind : Rule) (all : ℕ) (rest : List Line) (start s : S) (now : LinePlace)
    (lines : List Line) → length lines < length rest → (before : ℕ) (stop : Option ProcessorStop) (held : Option Event)
    → IfPlan (Onward sizes buses goes kind all rest start s) (next_plan sizes before (counts s)
    (record { standing = now; lines = lines; stop = stop; held_back = held }))
past-line sizes buses counts goes kind all rest start s now lines low before stop (Some event) = λ next g. behind low
past-line sizes buses counts goes kind all rest start s now lines low before stop None =
    stop-or-not (λ plan. length plan.agenda.lines ≤ length lines) (Onward sizes buses goes kind all rest start s)
    (λ plan few next g. behind (omega (arith, low, few))) (λ processor plan few next g. behind (omega (
      arith,
      low,
      few,
    )))
    (coming stop before) (planned_by sizes (counts s) stop lines (next_event sizes now (counts s)))
    (planned-fewer sizes (counts s) stop lines (next_event sizes now (counts s)))

under : (at : Place) → is_before at ≡ false → under_way at ≡ 1
under place.Before more = absurd (cc)
under (place.Enters terminal) more = refl
under (place.Runs process) more = refl
under (place.Delivers bus left) more = refl
under (place.Ticks node) more = refl

-- one event more
stage-on : {S P : Type 0} (sizes : Sizes) (buses : S → BusName → List P) (counts : S → Counts)
    (goes : S → Event → S → Type 0) → HasBuses buses goes → CountsBuses buses counts
    → (kind : Rule) (all : ℕ) (rest : List Line) (start s : S) → is_drain kind ≡ true → (before : ℕ) (now : LinePlace)
    (lines : List Line) (stop : Option ProcessorStop) (held : Option Event)
    → Stage sizes buses goes kind all rest start s now lines held
    → IfPlan (Onward sizes buses goes kind all rest start s) (next_plan sizes before (counts s)
    (record { standing = now; lines = lines; stop = stop; held_back = held }))
stage-on sizes buses counts goes has counted kind all rest start s drain before _ _ stop _ (between left made count
    rounds) =
    in-line sizes buses counts goes has counted kind all rest start s s left made (λ bus. []) place.Before
    (omega (arith, count)) rounds begins drain before stop
stage-on sizes buses counts goes has counted kind all rest start s drain before _ _ stop _
    (within left made first came at more count rounds round) =
    in-line sizes buses counts goes has counted kind all rest start first s left made came at
    (let one = under at more in omega (arith, one, count)) rounds round drain before stop
stage-on sizes buses counts goes has counted kind all rest start s drain before _ _ stop _
    (held_up left made first came from to event count rounds round turn) = λ next g.
    turned sizes buses goes kind all rest start first s next left made came from to event count rounds round turn g
stage-on sizes buses counts goes has counted kind all rest start s drain before now lines stop held (behind low) =
    past-line sizes buses counts goes kind all rest start s now lines low before stop held

-- the next event is planned by the line that gives it
next-planned : (sizes : Sizes) (counts : Counts) (stop : Option ProcessorStop) (there : LinePlace) (rest : List Line)
    (now : LinePlace) (lines : List Line) → IsNextLine sizes counts there rest now lines
    → planned_by sizes counts stop rest (next_event sizes there counts)
    ≡ planned_by sizes counts stop lines (next_event sizes now counts)
next-planned sizes counts stop there rest _ _ (itself move is) = refl
next-planned sizes counts stop there rest now _ (later {line = line} {lines = lines} none more) =
    next-planned sizes counts stop there rest (begun line) lines more
    ∙ ap (planned_by sizes counts stop (line ∷ lines)) (sym none)

-- the stretch is still at its beginning, or has a stage
stretch-stage : {S P : Type 0} (sizes : Sizes) (buses : S → BusName → List P) (counts : S → Counts)
    (goes : S → Event → S → Type 0) → HasBuses buses goes → CountsBuses buses counts
    → (kind : Rule) (all : ℕ) (rest : List Line) (before : ℕ) (agenda : Agenda) (start : S) → is_drain kind ≡ true
    → BeginsRound sizes (counts start) agenda kind all rest → (now : ℕ) (there : Agenda) (s : S)
    → GoesOn sizes counts goes before agenda start now there s → ((there ≡ agenda) × (s ≡ start))
    ⊎ Stage sizes buses goes kind all rest start s there.standing there.lines there.held_back
stretch-stage sizes buses counts goes has counted kind all rest before agenda start drain first _ _ _ at_once =
    inl (refl, refl)
stretch-stage {S} {P} sizes buses counts goes has counted kind all rest before agenda start drain first _ _ _
    (plays {now = now} {there = there} {t = t} {next = next} plan earlier is g) = inr
    (by (stretch-stage sizes buses counts goes has counted kind all rest before agenda start drain first now there t
    earlier)
    is g)
  where
    starts : next_plan sizes now (counts start) agenda ≡ Some plan
        → Onward sizes buses goes kind all rest start start plan
    starts is = plan-is (Onward sizes buses goes kind all rest start start) _ plan
        (in-line sizes buses counts goes has counted kind all rest start start start all zero (λ bus. []) place.Before
        (omega arith) no_round begins drain now agenda.stop)
        (ap (option_map (stopped_by (coming agenda.stop now)))
        (next-planned sizes (counts start) agenda.stop _ rest agenda.standing agenda.lines first.next)
        ∙ subst (λ held. upcoming_after sizes now (counts start) agenda held ≡ Some plan) first.free is)

    by : ((there ≡ agenda) × (t ≡ start)) ⊎ Stage sizes buses goes kind all rest start t there.standing there.lines
        there.held_back → next_plan sizes now (counts t) there ≡ Some plan → goes t plan.event next
        → Stage sizes buses goes kind all rest start next plan.agenda.standing plan.agenda.lines plan.agenda.held_back
    by (inl here) is g = starts
        (subst (λ a. next_plan sizes now (counts start) a ≡ Some plan) here.0
        (subst (λ u. next_plan sizes now (counts u) there ≡ Some plan) here.1 is)) next
        (subst (λ u. goes u plan.event next) here.1 g)
    by (inr stage) is g = plan-is (Onward sizes buses goes kind all rest start t) _ plan
        (stage-on sizes buses counts goes has counted kind all rest start t drain now there.standing there.lines
        there.stop
        there.held_back stage) is next g

-- where a stage is the end of a round, so many whole rounds were made
stage-ends : {S P : Type 0} (sizes : Sizes) (buses : S → BusName → List P) (goes : S → Event → S → Type 0) (kind : Rule)
    (all : ℕ) (rest : List Line) (start s : S) (left k : ℕ) (now : LinePlace) (lines : List Line) (held : Option Event)
    → Stage sizes buses goes kind all rest start s now lines held → now ≡ standing.Rounds kind left place.Before
    → lines ≡ rest → held ≡ None → left + k ≡ all → AreRounds sizes buses goes start k s
stage-ends sizes buses goes kind all rest start s left k _ _ _ (between other made count rounds) stands same free total
    =
    let left_is : other ≡ left = cc in
    subst (λ m. AreRounds sizes buses goes start m s)
    (let made_is : made ≡ k = omega (arith, count, total, left_is) in made_is) rounds
stage-ends sizes buses goes kind all rest start s left k _ _ _ (within other made first came at more count rounds round)
    stands same free total =
    absurd (let at_is : at ≡ place.Before = cc in let bad : true ≡ false = ap is_before (sym at_is) ∙ more in cc)
stage-ends sizes buses goes kind all rest start s left k _ _ _
    (held_up other made first came from to event count rounds round turn) stands same free total = absurd (cc)
stage-ends sizes buses goes kind all rest start s left k _ _ _ (behind low) stands same free total =
    absurd (let long = ap length same in let bad : length rest < length rest = omega (arith, low, long) in omega (
      arith,
      bad,
    ))

next-line : (sizes : Sizes) (counts : Counts) (there : LinePlace) (rest : List Line) (now : LinePlace)
    (lines : List Line) → IsNextLine sizes counts there rest now lines
    → ((now ≡ there) ⊎ (length rest < length lines)) × (length rest ≤ length lines)
next-line sizes counts there rest _ _ (itself move is) = (inl refl, omega arith)
next-line sizes counts there rest now _ (later {line = line} {lines = lines} none more) =
    let most = (next-line sizes counts there rest (begun line) lines more).1 in
    let less : length rest < suc (length lines) = omega (arith, most) in
    (inr less, let low : length rest ≤ suc (length lines) = omega (arith, most) in low)

pub stretch-rounds : {S P : Type 0} (sizes : Sizes) (buses : S → BusName → List P) (counts : S → Counts)
    (goes : S → Event → S → Type 0) → HasBuses buses goes → CountsBuses buses counts
    → (kind : Rule) → is_drain kind ≡ true → (left k : ℕ) (rest : List Line) (before now : ℕ) (agenda there : Agenda)
    (start s : S) → BeginsRound sizes (counts start) agenda kind (left + suc k) rest
    → GoesOn sizes counts goes before agenda start now there s → EndsRound there kind left rest
    → AreRounds sizes buses goes start (suc k) s
stretch-rounds {S} {P} sizes buses counts goes has counted kind drain left k rest before now agenda there start s first
    on
    last =
    by (stretch-stage sizes buses counts goes has counted kind (left + suc k) rest before agenda start drain first now
    there
    s on)
  where
    same : there ≡ agenda → (agenda.standing ≡ standing.Rounds kind (left + suc k) place.Before)
        ⊎ (length rest < length agenda.lines) → AreRounds sizes buses goes start (suc k) s
    same here (inl stands) = absurd (
        let both : standing.Rounds kind left place.Before ≡ standing.Rounds kind (left + suc k) place.Before =
        sym last.stands ∙ ap (λ (a : Agenda). a.standing) here ∙ stands in
        let bad : left ≡ left + suc k = cc in omega (arith, bad))
    same here (inr low) = absurd (
        let long = ap (λ (a : Agenda). length a.lines) here in let short = ap length last.lines in
        let bad : length rest < length rest = omega (arith, low, long, short) in omega (arith, bad))

    by : ((there ≡ agenda) × (s ≡ start)) ⊎ Stage sizes buses goes kind (left + suc k) rest start s there.standing
        there.lines there.held_back → AreRounds sizes buses goes start (suc k) s
    by (inl here) = same here.0 (next-line sizes (counts start) _ rest agenda.standing agenda.lines first.next).0
    by (inr stage) = stage-ends sizes buses goes kind (left + suc k) rest start s left (suc k) there.standing
        there.lines
        there.held_back stage last.stands last.lines last.free refl
