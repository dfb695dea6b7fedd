-- In a run of a calm schedule whose drain rounds are clear, no running processor is held, and no second stop is asked
-- for.
use Rattle.std.proofs.Common.{◌≡◌, ◌≤◌, ◌<◌, ◌⊎◌, inl, inr, ℕ, ◌&&◌, nat_lt, Bool, true, false}
use Rattle.std.proofs.Common.{if◌then◌else◌, List, [], ◌∷◌, length, Option, Some, None, option_map, refl, ap, slice_get}
use Rattle.std.proofs.Common.{subst, arith}
use Rattle.std.specs.List.{list_all}
use Rattle.std.specs.Option.{is_some}
use Rattle.std.proofs.lemmas.List.{length-append}
use Rattle.tal_tree.specs.declared.site.Site.{Site}
use Rattle.schedule.specs.declared.event.Counts.{Counts}
use Rattle.schedule.specs.declared.event.Event.{Event}
use Rattle.schedule.specs.declared.event.Event.TheVariants.{Run, Enter, Deliver, Lose, Repeat, Tick, Fail, Reload}
use Rattle.schedule.specs.declared.event.Event.TheVariants.{Drive}
use Rattle.schedule.specs.declared.line.Line.{Line}
use Rattle.schedule.specs.declared.line.Line.TheVariants.{One, Many, Drain, Mix, Mute, Until}
use Rattle.player.specs.declared.standing.Sizes.{Sizes}
use Rattle.player.specs.declared.standing.Move.{Move}
use Rattle.player.specs.declared.standing.LinePlace.{LinePlace}
use Rattle.player.specs.declared.standing.LinePlace.TheVariants as standing
use Rattle.player.specs.declared.stop.ProcessorStop.{ProcessorStop}
use Rattle.player.specs.Lines.{begun, decided_move, is_before, is_over, next_event}
use Rattle.agendas.specs.Agendas.{Agenda, Plan, PlaysOn, coming, plays_none, plays_on, stopped_by, next_plan}
use Rattle.calm_schedules.specs.Calm.{IsCalm, is_calm_line, is_stop}
use Rattle.world_semantics.specs.World.{is_running}
use Rattle.world_semantics.specs.Running.{Done}
use Rattle.computed_changes.specs.Stopped.{stop_done}
use Rattle.machine_states.specs.States.{Harm}
use Rattle.schedule.specs.declared.bus_name.BusName.{BusName}
use Rattle.packet_wires.specs.Wires.{on_bus, packets_over}
use Rattle.packet_wires.specs.Play.{IsClear, Packeted, underway, fail_acted, out_of, packeted_at_boot}
use Rattle.packet_wires.specs.Play.{sent_by, stop_acted}
use Rattle.round_laws.specs.Stretches.{is_drain}
use Rattle.calm_runs.specs.packet_rounds.specs.Played.{IsClearPlay}
use Rattle.calm_runs.proofs.Calm.{calm-asks, goes-on-running, never-harm}
use Rattle.schedule_loop.specs.Ends.{Plays, RunsToHarmBy, planned_in}
use Rattle.schedule_loop.specs.Plans.{Sight, next_seen, planned_seen, seen_none, seen_on, upcoming_seen}
use Rattle.schedule_loop.specs.Plans.{upcoming_seen_after}
use Rattle.schedule_loop.specs.Rules.{IsPlayBy, sight_of}
use Rattle.packet_lengths.specs.packet_runs.proofs.Played.{played}
use Rattle.packet_lengths.specs.packet_runs.specs.Runs.{course_on, packet_rules, sizes_of}
use Rattle.packet_lengths.proofs.Buses.{bus-few}
use Rattle.bounded_runs.specs.Moments.{AreClear, counts_in}
use Rattle.bounded_runs.specs.Places.{is_in_drain_round}
use Rattle.bounded_runs.proofs.Playing.{alive_in, counted, sender_in, shown}
use Rattle.bounded_runs.proofs.Seeing.{IfMove, is_blind, upcoming-same}

-- Where a calm schedule stands

abbrev is_calm_place : LinePlace → Bool
is_calm_place standing.Ended = true
is_calm_place (standing.Event event left) = is_stop event
is_calm_place (standing.Rounds rule left place) = is_drain rule
is_calm_place (standing.Mixed left place draws) = false

-- an event of a drain round, or a stop
abbrev IsCalmEvent : LinePlace → Event → Type 0
IsCalmEvent now event = (is_in_drain_round now ≡ true) ⊎ (is_stop event ≡ true)

abbrev IsCalmHeld : LinePlace → Option Event → Type 0
IsCalmHeld now None = Unit {0}
IsCalmHeld now (Some event) = IsCalmEvent now event

record IsCalmAgenda (agenda : Agenda) : Type 0 where
  lines : list_all is_calm_line agenda.lines ≡ true
  place : is_calm_place agenda.standing ≡ true
  held : IsCalmHeld agenda.standing agenda.held_back

record IsCalmPlan (plan : Plan) : Type 0 where
  agenda : IsCalmAgenda plan.agenda
  event : IsCalmEvent plan.agenda.standing plan.event

calm-blind : (now : LinePlace) → is_calm_place now ≡ true → is_blind now ≡ true
calm-blind standing.Ended calm = refl
calm-blind (standing.Event event left) calm = refl
calm-blind (standing.Rounds rule left place) calm = calm
calm-blind (standing.Mixed left place draws) calm = absurd (cc)

begun-calm : (line : Line) → is_calm_line line ≡ true → is_calm_place (begun line) ≡ true
begun-calm (One event) calm = calm
begun-calm (Many event times) calm = absurd (cc)
begun-calm (Drain rounds) calm = refl
begun-calm (Mix start rounds) calm = absurd (cc)
begun-calm (Mute node rounds) calm = absurd (cc)
begun-calm (Until writes count rounds) calm = refl

both : (a b : Bool) → (a && b) ≡ true → (a ≡ true) × (b ≡ true)
both true b is = (refl, is)
both false b is = absurd (cc)

abbrev IsCalmMove : Move → Type 0
IsCalmMove move = (is_calm_place move.standing ≡ true) × IsCalmEvent move.standing move.event

round-moves : (holds : Move → Type 0) (over first some : Bool) (f : Move → Move) (one other : Move) → holds (f one)
    → holds (f other)
    → IfMove holds (if over then None else option_map f (if first then (if some then Some one else None) else
    Some other))
round-moves holds true first some f one other a b = tt
round-moves holds false true true f one other a b = a
round-moves holds false true false f one other a b = tt
round-moves holds false false some f one other a b = b

some-moves : (holds : Move → Type 0) (over some : Bool) (f : Move → Move) (one : Move) → holds (f one)
    → IfMove holds (if over then None else option_map f (if some then Some one else None))
some-moves holds true some f one a = tt
some-moves holds false true f one a = a
some-moves holds false false f one a = tt

next-calm : (sizes : Sizes) (now : LinePlace) (counts : Counts) → is_calm_place now ≡ true
    → IfMove IsCalmMove (next_event sizes now counts)
next-calm sizes standing.Ended counts calm = tt
next-calm sizes (standing.Event event left) counts calm =
    some-moves IsCalmMove (is_over (standing.Event event left) counts) (nat_lt 0 left)
    (decided_move (standing.Event event left) counts) _ (calm, inr calm)
next-calm sizes (standing.Rounds rule left place) counts calm =
    round-moves IsCalmMove (is_over (standing.Rounds rule left place) counts) (is_before place) (nat_lt 0 left)
    (decided_move (standing.Rounds rule left place) counts) _ _ (calm, inl calm) (calm, inl calm)
next-calm sizes (standing.Mixed left place draws) counts calm = absurd (cc)

abbrev IfPlan : (Plan → Type 0) → Option Plan → Type 0
IfPlan holds None = Unit {0}
IfPlan holds (Some plan) = holds plan

module _ (sizes : Sizes) (sight : Sight) where
  planned-calm : (stop : Option ProcessorStop) (lines : List Line) (move : Option Move)
      → list_all is_calm_line lines ≡ true → IfMove IsCalmMove move
      → IfPlan IsCalmPlan (planned_seen sizes sight stop lines move)
  planned-calm stop lines (Some move) calm is =
      record { agenda = record { lines = calm; place = is.0; held = tt }; event = is.1 }
  planned-calm stop [] None calm is = tt
  planned-calm stop (line ∷ lines) None calm is =
      let c = both (is_calm_line line) (list_all is_calm_line lines) calm in
      planned-calm stop lines (next_seen sizes sight (begun line)) c.1
      (next-calm sizes (begun line) (sight (record { sizes = sizes; standing = begun line })) (begun-calm line c.0))

  stopped-calm : (stopping : Option ℕ) (found : Option Plan) → IfPlan IsCalmPlan found
      → IfPlan IsCalmPlan (option_map (stopped_by stopping) found)
  stopped-calm stopping None calm = tt
  stopped-calm None (Some plan) calm = calm
  stopped-calm (Some processor) (Some plan) calm = record {
    agenda = record { lines = calm.agenda.lines; place = calm.agenda.place; held = calm.event };
    event = inr refl;
  }

  upcoming-calm : (so_far : ℕ) (agenda : Agenda) → IsCalmAgenda agenda
      → IfPlan IsCalmPlan (upcoming_seen sizes so_far sight agenda)
  upcoming-calm so_far agenda calm = by agenda.held_back calm.held
    where
      by : (held : Option Event) → IsCalmHeld agenda.standing held
          → IfPlan IsCalmPlan (upcoming_seen_after sizes so_far sight agenda held)
      by (Some event) is =
          record { agenda = record { lines = calm.lines; place = calm.place; held = tt }; event = is }
      by None is = stopped-calm (coming agenda.stop so_far) _
          (planned-calm agenda.stop agenda.lines (next_seen sizes sight agenda.standing) calm.lines
          (next-calm sizes agenda.standing (sight (record { sizes = sizes; standing = agenda.standing })) calm.place))

-- A stop sends nothing

fail-sends : (s : Packeted) (processor : ℕ) → sent_by s (Fail processor) ≡ []
fail-sends s processor = by (slice_get s.world.stopped processor)
  where
    stops : (done : Option Done) → out_of (stop_acted processor (underway s) done) ≡ []
    stops None = refl
    stops (Some done) = refl

    by : (stopped : Option Bool) → out_of (fail_acted processor (underway s) stopped) ≡ []
    by None = refl
    by (Some true) = refl
    by (Some false) = stops (stop_done processor s.world)

stop-clear : (s : Packeted) (event : Event) → ((name : BusName) → length (on_bus name s.wires) ≤ 4096)
    → is_stop event ≡ true → IsClear s event
stop-clear s (Run number) few stops name = absurd (cc)
stop-clear s (Enter number) few stops name = absurd (cc)
stop-clear s (Deliver bus k) few stops name = absurd (cc)
stop-clear s (Lose bus k) few stops name = absurd (cc)
stop-clear s (Repeat bus k) few stops name = absurd (cc)
stop-clear s (Tick node) few stops name = absurd (cc)
stop-clear s (Reload processor) few stops name = absurd (cc)
stop-clear s (Drive event) few stops name = absurd (cc)
stop-clear s (Fail processor) few stops name =
    let none = ap (λ out. length (packets_over name out)) (fail-sends s processor) in
    let low = few name in
    omega (arith, none, low)

-- What is played

module _ (site : Site) (lines : List Line) (stop : Option ProcessorStop) (calm : list_all is_calm_line lines ≡ true)
  where
    record IsCalmly (events : List Event) (agenda : Agenda) (s : Packeted) : Type 0 where
      stands : IsCalmAgenda agenda
      plays : PlaysOn (sizes_of site) counts_in IsClearPlay (packeted_at_boot site) lines stop events agenda s

    calm-plan : (so_far : ℕ) (agenda : Agenda) (s : Packeted) (plan : Plan) → IsCalmAgenda agenda
        → planned_in packet_rules (sizes_of site) so_far s agenda ≡ Some plan → IsCalmPlan plan
    calm-plan so_far agenda s plan stands comes =
        subst (IfPlan IsCalmPlan) comes
        (upcoming-calm (sizes_of site) (sight_of packet_rules s) so_far agenda stands)

    -- the same comes next where no packet is looked at
    as-counted : (so_far : ℕ) (agenda : Agenda) (s : Packeted) (plan : Plan) → IsCalmAgenda agenda
        → planned_in packet_rules (sizes_of site) so_far s agenda ≡ Some plan
        → next_plan (sizes_of site) so_far (counts_in s) agenda ≡ Some plan
    as-counted so_far agenda s plan stands comes =
        upcoming-same (sizes_of site) (counts_in s) (alive_in s) (sender_in s) so_far agenda plan comes
        (calm-blind plan.agenda.standing (calm-plan so_far agenda s plan stands comes).agenda.place)

    step-clear : (events : List Event) (agenda : Agenda) (s : Packeted) (plan : Plan) → IsCalmAgenda agenda
        → Plays packet_rules (course_on site lines stop) events agenda s
        → planned_in packet_rules (sizes_of site) (length events) s agenda ≡ Some plan → (to : ℕ)
        → AreClear site lines stop 0 to → length events < to → IsClear s plan.event
    step-clear events agenda s plan stands before comes to clear low =
        by (calm-plan (length events) agenda s plan stands comes).event
      where
        by : IsCalmEvent plan.agenda.standing plan.event → IsClear s plan.event
        by (inl drains) = clear (record { events = events; agenda = agenda; state = s; played = before }) plan
            (omega arith) low comes drains
        by (inr stops) = stop-clear s plan.event
            (λ name. bus-few site events s name (played {lines = lines} {stop = stop} before)) stops

    calmly : (events : List Event) (agenda : Agenda) (s : Packeted)
        → Plays packet_rules (course_on site lines stop) events agenda s → (to : ℕ) → AreClear site lines stop 0 to
        → length events ≤ to → IsCalmly events agenda s
    calmly _ _ _ seen_none to clear low = record {
      stands = record { lines = calm; place = refl; held = tt };
      plays = plays_none;
    }
    calmly _ _ _ (seen_on {events = events} {agenda = agenda} {s = s} plan before comes playing) to clear low =
        let long = length-append events (plan.event ∷ []) in
        let less : length events < to = omega (arith, long, low) in
        let so_far = calmly events agenda s before to clear (omega (arith, less)) in
        record {
          stands = (calm-plan (length events) agenda s plan so_far.stands comes).agenda;
          plays = plays_on plan so_far.plays (as-counted (length events) agenda s plan so_far.stands comes)
              (step-clear events agenda s plan so_far.stands before comes to clear less, playing);
        }

    module _ (few : site.processors ≤ 16) where
      -- who runs goes on running
      pub nobody-held : (events : List Event) (agenda : Agenda) (s : Packeted)
          → Plays packet_rules (course_on site lines stop) events agenda s → (plan : Plan)
          → planned_in packet_rules (sizes_of site) (length events) s agenda ≡ Some plan → (next : Packeted)
          → IsPlayBy packet_rules s plan.event next → (to : ℕ) → AreClear site lines stop 0 to → length events < to
          → is_stop plan.event ≡ false → (p : ℕ) → p < site.processors → is_running s.world.stopped p ≡ true
          → is_running next.world.stopped p ≡ true
      nobody-held events agenda s before plan comes next playing to clear low =
          let so_far = calmly events agenda s before to clear (omega (arith, low)) in
          goes-on-running site few counts_in counted shown lines stop calm events agenda s so_far.plays plan
          (as-counted (length events) agenda s plan so_far.stands comes) next
          (step-clear events agenda s plan so_far.stands before comes to clear low, playing)

      pub no-harm : IsCalm lines (is_some stop) → (events : List Event) (s : Packeted)
          → AreClear site lines stop 0 (length events) → (harm : Harm)
          → RunsToHarmBy packet_rules (course_on site lines stop) events s harm → ⊥
      no-harm one events s clear harm ran =
          let so_far = calmly events ran.agenda s ran.played (length events) clear
          (let all : length events ≤ length events = omega arith in all) in
          never-harm site few counts_in counted shown lines stop calm (calm-asks lines stop one) events ran.agenda s
          so_far.plays ran.plan (as-counted (length events) ran.agenda s ran.plan so_far.stands ran.comes)
          harm ran.would
