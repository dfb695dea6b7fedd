-- What a schedule plays from a moment to a later one, on whatever machine that goes on in one way; and that a stretch
-- of drain rounds of one line is the same where no packet is looked at.
use Rattle.std.proofs.Common.{◌≡◌, ◌≤◌, ◌<◌, ◌⊎◌, inl, inr, ℕ, suc, ◌+◌, ◌∙◌, nat_lt, Bool, true, false, if◌then◌else◌}
use Rattle.std.proofs.Common.{List, [], ◌∷◌, ◌++◌, length, Option, Some, None, option_map, refl, ap, ap₂, sym, subst}
use Rattle.std.proofs.Common.{arith}
use Rattle.std.proofs.Math.Nat.{eq-or-lt_of_le}
use Rattle.std.proofs.lemmas.List.{append_assoc, append-nil, length-append}
use Rattle.schedule.specs.declared.event.Counts.{Counts}
use Rattle.schedule.specs.declared.event.Event.{Event}
use Rattle.schedule.specs.declared.line.Line.{Line}
use Rattle.player.specs.declared.player.Player.{Player}
use Rattle.player.specs.declared.standing.Sizes.{Sizes}
use Rattle.player.specs.declared.standing.Move.{Move}
use Rattle.player.specs.declared.standing.Rule.{Rule}
use Rattle.player.specs.declared.standing.Place.TheVariants as place
use Rattle.player.specs.declared.standing.LinePlace.{LinePlace}
use Rattle.player.specs.declared.standing.LinePlace.TheVariants as standing
use Rattle.player.specs.declared.stop.ProcessorStop.{ProcessorStop}
use Rattle.player.specs.Lines.{begun, decided_move, is_before, is_before_mixed, is_over, next_event}
use Rattle.player.specs.Lines.{proposed}
use Rattle.agendas.specs.Agendas.{Agenda, Plan, coming, stopped_by, next_plan}
use Rattle.schedule_loop.specs.Plans.{PlaysSeen, Sight, next_seen, planned_seen, seen_none, seen_on, upcoming_seen}
use Rattle.schedule_loop.specs.Plans.{upcoming_seen_after}
use Rattle.round_laws.specs.Stretches.{BeginsRound, IsNextLine, is_drain, itself, later}
use Rattle.bounded_runs.specs.Places.{is_in_drain_round}
use Rattle.bounded_runs.proofs.Seeing.{Alike, IfMove, alike-seen, drains-blind, looked_at, upcoming-same}

-- from a moment that so many events precede, these events were played, by what was planned before each
pub data PlannedOn {S : Type 0} (plans : ℕ → S → Agenda → Option Plan) (steps : S → Plan → S → Type 0) (before : ℕ)
    (agenda : Agenda) (s : S) : List Event → ℕ → Agenda → S → Type 0 where
  at_first : PlannedOn plans steps before agenda s [] before agenda s
  then_on : {between : List Event} {now : ℕ} {there : Agenda} {t next : S} → (plan : Plan)
      → PlannedOn plans steps before agenda s between now there t → plans now t there ≡ Some plan
      → steps t plan next
      → PlannedOn plans steps before agenda s (between ++ plan.event ∷ []) (now + 1) plan.agenda next

-- A schedule is played in one way

longer : (events : List Event) (event : Event) → length (events ++ event ∷ []) ≡ length events + 1
longer events event = length-append events (event ∷ [])

one-found : {A B C X : Type 0} → (f : A → B → C → Option X) (a b : A) (c d : B) (n m : C) (x y : X) → a ≡ b → c ≡ d
    → n ≡ m
    → f a c n ≡ Some x → f b d m ≡ Some y → x ≡ y
one-found f a b c d n m x y first second third one two = cc

pub record AreSame {S : Type 0} (events others : List Event) (agenda other : Agenda) (s t : S) : Type 0 where
  pub same_events : events ≡ others
  pub same_agenda : agenda ≡ other
  pub same_state : s ≡ t

-- what leads from one moment to a later one
pub record Cut {S : Type 0} (plans : ℕ → S → Agenda → Option Plan) (steps : S → Plan → S → Type 0)
    (events others : List Event) (agenda there : Agenda) (s t : S) : Type 0 where
  pub between : List Event
  pub joined : others ≡ events ++ between
  pub on : PlannedOn plans steps (length events) agenda s between (length others) there t

module _ {S : Type 0} (sizes : Sizes) (sight : S → Sight) (goes : S → Event → S → Type 0)
    (one_next : (s : S) (event : Event) (next after : S) → goes s event next → goes s event after → next ≡ after)
    (start : S) (lines : List Line) (stop : Option ProcessorStop) where
  abbrev plans : ℕ → S → Agenda → Option Plan
  plans so_far s agenda = upcoming_seen sizes so_far (sight s) agenda

  next-same : (s t : S) (event that : Event) (next after : S) → s ≡ t → event ≡ that → goes s event next
      → goes t that after → next ≡ after
  next-same s t event that next after same is one two =
      one_next s event next after one
      (subst (λ (u : S). goes u event after) (sym same) (subst (λ e. goes t e after) (sym is) two))

  pub same-as-long : (events others : List Event) (agenda other : Agenda) (s t : S)
      → PlaysSeen sizes sight goes start lines stop events agenda s
      → PlaysSeen sizes sight goes start lines stop others other t → length events ≡ length others
      → AreSame events others agenda other s t
  same-as-long _ _ _ _ _ _ seen_none seen_none long =
      record { same_events = refl; same_agenda = refl; same_state = refl }
  same-as-long _ _ _ _ _ _ seen_none (seen_on {events = others} that after come plays) long =
      let more = longer others that.event in absurd (omega (arith, long, more))
  same-as-long _ _ _ _ _ _ (seen_on {events = events} plan before comes playing) seen_none long =
      let more = longer events plan.event in absurd (omega (arith, long, more))
  same-as-long _ _ _ _ _ _ (seen_on {events = events} {agenda = agenda} {s = s} {next = next} plan before comes
      playing)
      (seen_on {events = others} {agenda = other} {s = t} {next = after} that earlier come plays) long =
      let more = longer events plan.event in
      let longs = longer others that.event in
      let same = same-as-long events others agenda other s t before earlier (omega (arith, long, more, longs)) in
      let is = one-found (λ (all : List Event) (state : S) (there : Agenda). plans (length all) state there) events
      others s t agenda other plan that same.same_events same.same_state same.same_agenda comes come in
      record {
        same_events = ap₂ (λ (all : List Event) (one : Plan). all ++ one.event ∷ []) same.same_events is;
        same_agenda = ap (λ (one : Plan). one.agenda) is;
        same_state = next-same s t plan.event that.event next after same.same_state
            (ap (λ (one : Plan). one.event) is) playing plays;
      }

  at-same : (steps : S → Plan → S → Type 0) (events others : List Event) (agenda there : Agenda) (s t : S)
      → AreSame events others agenda there s t → Cut plans steps events others agenda there s t
  at-same steps events others agenda there s t same = record {
    between = [];
    joined = sym same.same_events ∙ sym (append-nil events);
    on = subst (λ (u : S). PlannedOn plans steps (length events) agenda s [] (length others) there u) same.same_state
        (subst (λ (a : Agenda). PlannedOn plans steps (length events) agenda s [] (length others) a s) same.same_agenda
        (subst (λ (all : List Event). PlannedOn plans steps (length events) agenda s [] (length all) agenda s)
        same.same_events
        at_first));
  }

  -- of each event between two moments more may be known than that it was played
  module _ (steps : S → Plan → S → Type 0) (from to : ℕ)
      (more : (events : List Event) (agenda : Agenda) (s : S) (plan : Plan) (next : S)
      → PlaysSeen sizes sight goes start lines stop events agenda s → plans (length events) s agenda ≡ Some plan
      → goes s plan.event next
      → from ≤ length events → length events < to → steps s plan next) where
    pub cut : (events others : List Event) (agenda there : Agenda) (s t : S) → length events ≡ from
        → PlaysSeen sizes sight goes start lines stop events agenda s
        → PlaysSeen sizes sight goes start lines stop others there t → length events ≤ length others
        → length others ≤ to → Cut plans steps events others agenda there s t
    cut events _ agenda _ s _ at first seen_none few most =
        at-same steps events _ agenda _ s _ (same-as-long events _ agenda _ s _ first seen_none (omega (arith, few)))
    cut events _ agenda _ s _ at first (seen_on {events = others} {agenda = there} {s = t} {next = next} plan before
        comes
        playing)
        few most =
        by (λ less low. cut events others agenda there s t at first before less low) (eq-or-lt_of_le few)
      where
        on : length events ≤ length others → length others < to → Cut plans steps events others agenda there s t
            → Cut plans steps events (others ++ plan.event ∷ []) agenda plan.agenda s next
        on less low c = record {
          between = c.between ++ plan.event ∷ [];
          joined = ap (λ (all : List Event). all ++ plan.event ∷ []) c.joined
              ∙ append_assoc events c.between (plan.event ∷ []);
          on = subst (λ count. PlannedOn plans steps (length events) agenda s (c.between ++ plan.event ∷ []) count
              plan.agenda next) (sym (longer others plan.event)) (then_on plan c.on comes
              (more others there t plan next before comes playing (omega (arith, at, less)) low));
        }

        by : (length events ≤ length others → length others ≤ to → Cut plans steps events others agenda there s t)
            → (length events ≡ length (others ++ plan.event ∷ []))
            ⊎ (length events < length (others ++ plan.event ∷ []))
            → Cut plans steps events (others ++ plan.event ∷ []) agenda plan.agenda s next
        by cuts (inl same) = at-same steps events _ agenda _ s _
            (same-as-long events _ agenda _ s _ first (seen_on plan before comes playing) same)
        by cuts (inr less) =
            let long = longer others plan.event in
            let fewer : length events ≤ length others = omega (arith, less, long) in
            let low : length others < to = omega (arith, most, long) in
            on fewer low (cuts fewer (omega (arith, low)))

-- Which lines are left

-- a move leaves the line in a drain round, or not, as before
round-moves : (holds : Move → Type 0) (first some : Bool) (one other : Move) → holds one → holds other
    → IfMove holds (if first then (if some then Some one else None) else Some other)
round-moves holds true true one other a b = a
round-moves holds true false one other a b = tt
round-moves holds false some one other a b = b

some-moves : (holds : Move → Type 0) (some : Bool) (one : Move) → holds one
    → IfMove holds (if some then Some one else None)
some-moves holds true one a = a
some-moves holds false one a = tt

decided-moves : (over : Bool) (now there : LinePlace) (counts : Counts) (move : Option Move)
    → IfMove (λ one. is_in_drain_round one.standing ≡ is_in_drain_round there) move
    → IfMove (λ one. is_in_drain_round one.standing ≡ is_in_drain_round there)
    (if over then None else option_map (decided_move now counts) move)
decided-moves true now there counts move all = tt
decided-moves false now there counts None all = tt
decided-moves false now there counts (Some one) all = all

blind-stays : (sizes : Sizes) (now : LinePlace) (counts : Counts)
    → IfMove (λ one. is_in_drain_round one.standing ≡ is_in_drain_round now) (next_event sizes now counts)
blind-stays sizes standing.Ended counts = tt
blind-stays sizes (standing.Event event left) counts =
    decided-moves (is_over (standing.Event event left) counts) (standing.Event event left) (standing.Event event left)
    counts (proposed sizes counts.x counts.y (standing.Event event left)) (some-moves _ (nat_lt 0 left) _ refl)
blind-stays sizes (standing.Rounds rule left place) counts =
    decided-moves (is_over (standing.Rounds rule left place) counts) (standing.Rounds rule left place)
    (standing.Rounds rule left place) counts (proposed sizes counts.x counts.y (standing.Rounds rule left place))
    (round-moves _ (is_before place) (nat_lt 0 left) _ _ refl refl)
blind-stays sizes (standing.Mixed left place draws) counts =
    decided-moves (is_over (standing.Mixed left place draws) counts) (standing.Mixed left place draws)
    (standing.Mixed left place draws) counts (proposed sizes counts.x counts.y (standing.Mixed left place draws))
    (round-moves _ (is_before_mixed place) (nat_lt 0 left) _ _ refl refl)

abbrev IfPlan : (Plan → Type 0) → Option Plan → Type 0
IfPlan holds None = Unit {0}
IfPlan holds (Some plan) = holds plan

-- of so many lines no more are left by a plan; and if as many are left, it leaves the line in a drain round or not, as
-- it was
abbrev KeepsLine : ℕ → Bool → Plan → Type 0
KeepsLine count blind plan = (length plan.agenda.lines ≤ count)
    × (count ≤ length plan.agenda.lines → is_in_drain_round plan.agenda.standing ≡ blind)

module _ (sizes : Sizes) (sight : Sight) where
  planned-keeps : (stop : Option ProcessorStop) (lines : List Line) (blind : Bool) (move : Option Move)
      → IfMove (λ one. is_in_drain_round one.standing ≡ blind) move
      → IfPlan (KeepsLine (length lines) blind) (planned_seen sizes sight stop lines move)
  planned-keeps stop lines blind (Some move) is = (omega arith, λ most. is)
  planned-keeps stop [] blind None is = tt
  planned-keeps stop (line ∷ lines) blind None is =
      by (planned_seen sizes sight stop lines (next_seen sizes sight (begun line)))
      (planned-keeps stop lines (is_in_drain_round (begun line)) (next_seen sizes sight (begun line))
      (blind-stays sizes (begun line) (sight (record { sizes = sizes; standing = begun line }))))
    where
      by : (found : Option Plan) → IfPlan (KeepsLine (length lines) (is_in_drain_round (begun line))) found
          → IfPlan (KeepsLine (suc (length lines)) blind) found
      by None keeps = tt
      by (Some plan) keeps = let few = keeps.0 in
          (omega (arith, few), λ most. absurd (omega (arith, few, most)))

  stopped-keeps : (count : ℕ) (blind : Bool) (stopping : Option ℕ) (found : Option Plan)
      → IfPlan (KeepsLine count blind) found → IfPlan (KeepsLine count blind) (option_map (stopped_by stopping) found)
  stopped-keeps count blind stopping None keeps = tt
  stopped-keeps count blind None (Some plan) keeps = keeps
  stopped-keeps count blind (Some processor) (Some plan) keeps = keeps

  upcoming-keeps : (so_far : ℕ) (agenda : Agenda)
      → IfPlan (KeepsLine (length agenda.lines) (is_in_drain_round agenda.standing))
      (upcoming_seen sizes so_far sight agenda)
  upcoming-keeps so_far agenda = by agenda.held_back
    where
      by : (held : Option Event) → IfPlan (KeepsLine (length agenda.lines) (is_in_drain_round agenda.standing))
          (upcoming_seen_after sizes so_far sight agenda held)
      by (Some event) = (omega arith, λ most. refl)
      by None = stopped-keeps (length agenda.lines) (is_in_drain_round agenda.standing) (coming agenda.stop so_far) _
          (planned-keeps agenda.stop agenda.lines (is_in_drain_round agenda.standing)
          (next_seen sizes sight agenda.standing)
          (blind-stays sizes agenda.standing (sight (record { sizes = sizes; standing = agenda.standing }))))

-- The first event of a round

-- these lines are left, and the line is in a drain round
abbrev IsOn : List Line → Plan → Type 0
IsOn rest plan = (plan.agenda.lines ≡ rest) × (is_in_drain_round plan.agenda.standing ≡ true)

module _ (sizes : Sizes) (counts : Counts) (alive : Player → Bool) (sender : Player → ℕ) where
  abbrev here : Sight
  here = looked_at counts alive sender

  first-on : (stop : Option ProcessorStop) (there : LinePlace) (rest : List Line) → is_in_drain_round there ≡ true
      → (now : LinePlace) (lines : List Line) → IsNextLine sizes counts there rest now lines
      → IfPlan (IsOn rest) (planned_seen sizes here stop lines (next_seen sizes here now))
  first-on stop there rest blind _ _ (itself move is) =
      by (next_seen sizes here there) (next_event sizes there counts)
      (alike-seen sizes counts alive sender there)
      (blind-stays sizes there (here (record { sizes = sizes; standing = there }))) is
    where
      by : (one other : Option Move) → Alike one other
          → IfMove (λ m. is_in_drain_round m.standing ≡ is_in_drain_round there) one
          → other ≡ Some move → IfPlan (IsOn rest) (planned_seen sizes here stop rest one)
      by (Some one) other alike same some = (refl, same ∙ blind)
      by None (Some other) alike same some = absurd alike
      by None None alike same some = absurd (cc)
  first-on stop there rest blind now _ (later {line = line} {lines = lines} none more) =
      by (next_seen sizes here now) (next_event sizes now counts) (alike-seen sizes counts alive sender now) none
      (first-on stop there rest blind (begun line) lines more)
    where
      by : (one other : Option Move) → Alike one other → other ≡ None
          → IfPlan (IsOn rest) (planned_seen sizes here stop lines (next_seen sizes here (begun line)))
          → IfPlan (IsOn rest) (planned_seen sizes here stop (line ∷ lines) one)
      by None other alike gone on = on
      by (Some one) None alike gone on = absurd alike
      by (Some one) (Some other) alike gone on = absurd (cc)

  stopped-on : (rest : List Line) (stopping : Option ℕ) (found : Option Plan) → IfPlan (IsOn rest) found
      → IfPlan (IsOn rest) (option_map (stopped_by stopping) found)
  stopped-on rest stopping None on = tt
  stopped-on rest None (Some plan) on = on
  stopped-on rest (Some processor) (Some plan) on = on

  begins-on : (so_far : ℕ) (agenda : Agenda) (rule : Rule) (left : ℕ) (rest : List Line) → is_drain rule ≡ true
      → BeginsRound sizes counts agenda rule left rest
      → IfPlan (IsOn rest) (upcoming_seen sizes so_far here agenda)
  begins-on so_far agenda rule left rest drain first =
      subst (λ (held : Option Event). IfPlan (IsOn rest) (upcoming_seen_after sizes so_far here agenda held))
      (sym first.free)
      (stopped-on rest (coming agenda.stop so_far) _
      (first-on agenda.stop (standing.Rounds rule left place.Before) rest drain agenda.standing agenda.lines
      first.next))

-- A stretch of drain rounds

module _ {S : Type 0} (sizes : Sizes) (counts : S → Counts) (alive : S → Player → Bool) (sender : S → Player → ℕ)
    (steps : S → Plan → S → Type 0) where
  abbrev pub seen_plans : ℕ → S → Agenda → Option Plan
  seen_plans so_far s agenda = upcoming_seen sizes so_far (looked_at (counts s) (alive s) (sender s)) agenda

  abbrev pub counted_plans : ℕ → S → Agenda → Option Plan
  counted_plans so_far s agenda = next_plan sizes so_far (counts s) agenda

  abbrev pub DrainSteps : S → Plan → S → Type 0
  DrainSteps s plan next = steps s plan next × (is_in_drain_round plan.agenda.standing ≡ true)

  module _ (rule : Rule) (drain : is_drain rule ≡ true) (left : ℕ) (rest : List Line) (before : ℕ) (agenda : Agenda)
      (s : S) (first : BeginsRound sizes (counts s) agenda rule left rest) where
    -- at the beginning, or on the line
    abbrev Stays : Agenda → S → Type 0
    Stays there t = ((there ≡ agenda) × (t ≡ s))
        ⊎ ((is_in_drain_round there.standing ≡ true) × (length there.lines ≤ length rest))

    plan-stays : (now : ℕ) (there : Agenda) (t : S) (plan : Plan) → Stays there t
        → seen_plans now t there ≡ Some plan → length rest ≤ length plan.agenda.lines
        → (is_in_drain_round plan.agenda.standing ≡ true) × (length plan.agenda.lines ≤ length rest)
    plan-stays now there t plan (inl same) comes most =
        let at : seen_plans now s agenda ≡ Some plan =
        subst (λ (u : S). seen_plans now u agenda ≡ Some plan) same.1
        (subst (λ (a : Agenda). seen_plans now t a ≡ Some plan) same.0 comes) in
        let on : IsOn rest plan = subst (IfPlan (IsOn rest)) at
        (begins-on sizes (counts s) (alive s) (sender s) now agenda rule left rest drain first) in
        let long = ap length on.0 in (on.1, omega (arith, long))
    plan-stays now there t plan (inr stays) comes most =
        let keeps : KeepsLine (length there.lines) (is_in_drain_round there.standing) plan =
        subst (IfPlan (KeepsLine (length there.lines) (is_in_drain_round there.standing))) comes
        (upcoming-keeps sizes (looked_at (counts t) (alive t) (sender t)) now there) in
        let few = keeps.0 in let low = stays.1 in
        (keeps.1 (omega (arith, low, most)) ∙ stays.0, omega (arith, few, low))

    fewer-left : (now : ℕ) (there : Agenda) (t : S) (plan : Plan) → seen_plans now t there ≡ Some plan
        → length plan.agenda.lines ≤ length there.lines
    fewer-left now there t plan comes =
        let keeps : KeepsLine (length there.lines) (is_in_drain_round there.standing) plan =
        subst (IfPlan (KeepsLine (length there.lines) (is_in_drain_round there.standing))) comes
        (upcoming-keeps sizes (looked_at (counts t) (alive t) (sender t)) now there) in
        keeps.0

    -- as long as no line behind it is begun, the stretch is the same where no packet is looked at
    record Stretch (between : List Event) (now : ℕ) (there : Agenda) (t : S) : Type 0 where
      stays : Stays there t
      on : PlannedOn counted_plans DrainSteps before agenda s between now there t

    stretch : (between : List Event) (now : ℕ) (there : Agenda) (t : S)
        → PlannedOn seen_plans steps before agenda s between now there t → length rest ≤ length there.lines
        → Stretch between now there t
    stretch _ _ _ _ at_first most = record { stays = inl (refl, refl); on = at_first }
    stretch _ _ _ _ (then_on {between = between} {now = now} {there = there} {t = t} plan on comes playing) most =
        let few = fewer-left now there t plan comes in
        let so_far = stretch between now there t on (omega (arith, few, most)) in
        let now_on = plan-stays now there t plan so_far.stays comes most in
        record {
          stays = inr now_on;
          on = then_on plan so_far.on
              (upcoming-same sizes (counts t) (alive t) (sender t) now there plan comes
              (drains-blind plan.agenda.standing now_on.0)) (playing, now_on.0);
        }

    pub counted-on : (between : List Event) (now : ℕ) (there : Agenda) (t : S)
        → PlannedOn seen_plans steps before agenda s between now there t → there.lines ≡ rest
        → PlannedOn counted_plans DrainSteps before agenda s between now there t
    counted-on between now there t on same =
        (stretch between now there t on (let long = ap length same in omega (arith, long))).on
