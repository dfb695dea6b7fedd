-- Why in a calm schedule nobody who runs is stopped but by its one stop.
use Rattle.std.proofs.Common.{◌≡◌, ◌≤◌, ◌<◌, ◌⊎◌, inl, inr, ℕ, ◌+◌, ◌∙◌, nat_lt, Bool, true, false, List, [], ◌∷◌}
use Rattle.std.proofs.Common.{length, slice_get, Option, Some, None, refl, ap, sym, subst, arith, cond}
use Rattle.std.proofs.Common.{◌&&◌}
use Rattle.std.specs.List.{count_by, list_all}
use Rattle.std.specs.Option.{is_some}
use Rattle.std.proofs.lemmas.List.Sums.{sum_by-cons}
use Rattle.std.proofs.lemmas.Option.{slice_get_within}
use Rattle.tal_tree.specs.declared.site.Site.{Site}
use Rattle.schedule.specs.declared.event.Counts.{Counts}
use Rattle.schedule.specs.declared.event.Event.{Event}
use Rattle.schedule.specs.declared.event.Event.TheVariants.{Run, Enter, Deliver, Lose, Repeat, Tick, Fail, Reload}
use Rattle.schedule.specs.declared.event.Event.TheVariants.{Drive}
use Rattle.schedule.specs.declared.line.Line.{Line}
use Rattle.schedule.specs.declared.line.Line.TheVariants.{One, Many, Drain, Mix, Mute, Until}
use Rattle.player.specs.declared.stop.ProcessorStop.{ProcessorStop}
use Rattle.agendas.specs.Agendas.{Agenda, Plan, PlaysOn, plays_none, plays_on, next_plan}
use Rattle.calm_schedules.specs.Calm.{IsCalm, is_calm_line, is_stop, stops_one}
use Rattle.world_semantics.specs.Running.{Done}
use Rattle.world_semantics.specs.Rules.{most_reloads}
use Rattle.world_semantics.specs.World.{is_marked_by_all, is_running, is_whole, runs_by}
use Rattle.computed_changes.specs.Stopped.{reload_counted, reload_done, reload_if, reload_where}
use Rattle.machine_states.specs.States.{Played, Makes, Skips, Would, Harm, SecondStop, DiscLoss}
use Rattle.packet_wires.specs.Wires.{Midst}
use Rattle.packet_wires.specs.Play.{Packeted, acted, underway, ended, packeted_at_boot, play, reload_acted, taken_off}
use Rattle.schedule_loop.proofs.Plain.{same-upcoming}
use Rattle.single_stops.specs.StopsAsked.{stops_asked, stops_in, stops_of, stops_of_lines}
use Rattle.single_stops.proofs.Costs.{IsPaid, to_come, upcoming-paid}
use Rattle.single_stops.specs.message_wires_laws.proofs.Whole.{begins-whole}
use Rattle.round_laws.specs.Stretches.{CountsBuses}
use Rattle.alive_rounds.specs.Runs.{CountsShown, RunsFresh, shows_nothing}
use Rattle.alive_rounds.proofs.Running.{nobody-silent, no-drive, no-reload, nobody-stopped, runs-fresh}
use Rattle.packet_rounds.specs.Played.{IsClearPlay, IsPlay, buses_of, sizes_of}
use Rattle.packet_rounds.specs.packets_laws.specs.Passing.{ReloadsNone}
use Rattle.calm_runs.specs.Sights.{CountsOfShown, packets_seen}
use Rattle.calm_runs.proofs.Acting.{KeepsIf, StopsIf, is_quiet, quiet-keeps, stop-leaves}
use Rattle.calm_runs.proofs.Sound.{IsSound, SoundPlay, boot-fresh, boot-sound, line-pulled, sound-buses, sound-on}
use Rattle.calm_runs.proofs.Sound.{tick-made, watched}
use Rattle.calm_runs.proofs.Ticking.{TicksIf, ticks-so}
use Rattle.calm_runs.proofs.Whole.{play-whole}
use Rattle.schedule.specs.declared.event.DriveEvent.{DriveEvent}
use Rattle.packet_rounds.specs.packets_laws.proofs.Pieces.{drive-keeps}
use Rattle.world_semantics.specs.World.{World}

-- Ticks and stops show nothing

fail-shown : (s : Packeted) (processor : ℕ) (next : Packeted) → play s (Fail processor) ≡ Makes next
    → next.world.shown ≡ s.world.shown
fail-shown s processor next made = by (acted s (Fail processor)) (stop-leaves s processor) made
  where
    by : (played : Played Midst) → StopsIf s played → ended s.wires played ≡ Makes next
        → next.world.shown ≡ s.world.shown
    by (Makes after) so made =
        let same : next.world.shown ≡ after.world.shown = cc in same ∙ so.shown
    by Skips so made = absurd (cc)
    by (Would harm) so made = absurd (cc)

reload-shown : (s : Packeted) (processor : ℕ) (next : Packeted) → play s (Reload processor) ≡ Makes next
    → next.world.shown ≡ s.world.shown
reload-shown s processor next made =
    by (reload_done s.site processor s.world) (where-shown (slice_get s.world.stopped processor)) made
  where
    Shows : Option Done → Type 0
    Shows None = Unit {0}
    Shows (Some done) = done.world.shown ≡ s.world.shown

    may : (times : ℕ) (test : Bool) → Shows (reload_if s.site processor times s.world test)
    may times true = refl
    may times false = tt

    counted : (times : Option ℕ) → Shows (reload_counted s.site processor s.world times)
    counted None = tt
    counted (Some times) = may times (is_marked_by_all s.world processor && nat_lt times most_reloads)

    where-shown : (stopped : Option Bool) → Shows (reload_where s.site processor s.world stopped)
    where-shown None = tt
    where-shown (Some true) = counted (slice_get s.world.reloads processor)
    where-shown (Some false) = tt

    by : (done : Option Done) → Shows done → ended s.wires (reload_acted processor (underway s) done) ≡ Makes next
        → next.world.shown ≡ s.world.shown
    by None shows made = absurd (cc)
    by (Some done) shows made =
        let same : next.world.shown ≡ done.world.shown = cc in same ∙ shows

play-shown : (s : Packeted) (event : Event) (next : Packeted) → shows_nothing event ≡ true → IsPlay s event next
    → next.world.shown ≡ s.world.shown
play-shown s event next shows (inr skips) = ap (λ (u : Packeted). u.world.shown) skips.1
play-shown s (Tick node) next shows (inl made) = let t = tick-made s node next made in
    ap (λ (u : Packeted). u.world.shown) t.next_is ∙ t.so.shown
play-shown s (Fail processor) next shows (inl made) = fail-shown s processor next made
play-shown s (Reload processor) next shows (inl made) = reload-shown s processor next made
play-shown s (Drive event) next shows (inl made) = ap (λ (w : World). w.shown) (drive-keeps s next event made)
play-shown s (Run number) next shows (inl made) = absurd (cc)
play-shown s (Enter number) next shows (inl made) = absurd (cc)
play-shown s (Deliver bus k) next shows (inl made) = absurd (cc)
play-shown s (Lose bus k) next shows (inl made) = absurd (cc)
play-shown s (Repeat bus k) next shows (inl made) = absurd (cc)

counts-shown : (site : Site) (counts : Packeted → Counts) → CountsOfShown counts → CountsShown (SoundPlay site) counts
counts-shown site counts shown s event next shows g = shown next s (play-shown s event next shows g.1.1)

-- In a run of a calm schedule

module _ (site : Site) (few : site.processors ≤ 16) (counts : Packeted → Counts) (counted : CountsBuses buses_of counts)
    (shown : CountsOfShown counts) (lines : List Line) (stop : Option ProcessorStop)
    (calm : list_all is_calm_line lines ≡ true) where
  fresh-so : (events : List Event) (agenda : Agenda) (s : Packeted)
      → PlaysOn (sizes_of site) counts (SoundPlay site) (packeted_at_boot site) lines stop events agenda s
      → RunsFresh (sizes_of site) packets_seen counts agenda s
  fresh-so events agenda s played =
      runs-fresh (sizes_of site) packets_seen counts (SoundPlay site) (watched site few) few (sound-buses site) counted
      (counts-shown site counts shown) (packeted_at_boot site) lines stop calm (boot-fresh site few) events agenda s
      played

  -- what comes next loads no processor again
  loads-none : (before : ℕ) (agenda : Agenda) (s : Packeted) → RunsFresh (sizes_of site) packets_seen counts agenda s
      → (plan : Plan) → next_plan (sizes_of site) before (counts s) agenda ≡ Some plan → ReloadsNone plan.event
  loads-none before agenda s fresh plan comes = by plan.event refl
    where
      by : (event : Event) → plan.event ≡ event → ReloadsNone event
      by (Run number) is = tt
      by (Enter number) is = tt
      by (Deliver bus k) is = tt
      by (Lose bus k) is = tt
      by (Repeat bus k) is = tt
      by (Tick node) is = tt
      by (Fail processor) is = tt
      by (Reload processor) is =
          no-reload (sizes_of site) packets_seen counts counted before agenda s fresh plan comes processor is
      by (Drive event) is = tt

  sounded : (events : List Event) (agenda : Agenda) (s : Packeted)
      → PlaysOn (sizes_of site) counts IsClearPlay (packeted_at_boot site) lines stop events agenda s
      → IsSound site s
      × PlaysOn (sizes_of site) counts (SoundPlay site) (packeted_at_boot site) lines stop events agenda s
  sounded _ _ _ plays_none = (boot-sound site few, plays_none)
  sounded _ _ _ (plays_on {events = events} {agenda = agenda} {s = s} {next = next} plan before comes g) =
      let b = sounded events agenda s before in
      let none = loads-none (length events) agenda s (fresh-so events agenda s b.1) plan comes in
      (sound-on site few s plan.event next none g.1 b.0, plays_on plan b.1 comes (b.0, g, none))

  fresh : (events : List Event) (agenda : Agenda) (s : Packeted)
      → PlaysOn (sizes_of site) counts IsClearPlay (packeted_at_boot site) lines stop events agenda s
      → RunsFresh (sizes_of site) packets_seen counts agenda s
  fresh events agenda s played = fresh-so events agenda s (sounded events agenda s played).1

  quiet-stays : (s : Packeted) (event : Event) (next : Packeted) → is_quiet event ≡ true → IsPlay s event next
      → next.world.stopped ≡ s.world.stopped
  quiet-stays s event next quiet (inr skips) = ap (λ (u : Packeted). u.world.stopped) skips.1
  quiet-stays s event next quiet (inl made) = by (acted s event) (quiet-keeps s event quiet) made
    where
      by : (played : Played Midst) → KeepsIf s played → ended (taken_off event s.wires) played ≡ Makes next
          → next.world.stopped ≡ s.world.stopped
      by (Makes after) k made =
          let same : next.world.stopped ≡ after.world.stopped = cc in same ∙ k.stopped
      by Skips k made = absurd (cc)
      by (Would harm) k made = absurd (cc)

  turn-stays : (s : Packeted) (event : DriveEvent) (next : Packeted) → IsPlay s (Drive event) next
      → next.world.stopped ≡ s.world.stopped
  turn-stays s event next (inr skips) = ap (λ (u : Packeted). u.world.stopped) skips.1
  turn-stays s event next (inl made) = ap (λ (w : World). w.stopped) (drive-keeps s next event made)

  -- who runs goes on running, whatever comes next but a stop
  pub goes-on-running : (events : List Event) (agenda : Agenda) (s : Packeted)
      → PlaysOn (sizes_of site) counts IsClearPlay (packeted_at_boot site) lines stop events agenda s → (plan : Plan)
      → next_plan (sizes_of site) (length events) (counts s) agenda ≡ Some plan → (next : Packeted)
      → IsClearPlay s plan.event next → is_stop plan.event ≡ false → (p : ℕ) → p < site.processors
      → is_running s.world.stopped p ≡ true → is_running next.world.stopped p ≡ true
  goes-on-running events agenda s played plan comes next g no_stop p low here = by plan.event refl
    where
      quiet : (event : Event) → plan.event ≡ event → is_quiet event ≡ true → is_running next.world.stopped p ≡ true
      quiet event is calm = subst (λ l. is_running l p ≡ true)
          (sym (quiet-stays s event next calm (subst (λ e. IsPlay s e next) is g.1))) here

      by : (event : Event) → plan.event ≡ event → is_running next.world.stopped p ≡ true
      by (Run number) is = quiet (Run number) is refl
      by (Enter number) is = quiet (Enter number) is refl
      by (Deliver bus k) is = quiet (Deliver bus k) is refl
      by (Lose bus k) is = quiet (Lose bus k) is refl
      by (Repeat bus k) is = quiet (Repeat bus k) is refl
      by (Fail processor) is = absurd (let bad : true ≡ false = ap is_stop (sym is) ∙ no_stop in cc)
      by (Reload processor) is =
          absurd (no-reload (sizes_of site) packets_seen counts counted (length events) agenda s
          (fresh events agenda s played) plan comes processor is)
      by (Drive event) is = subst (λ l. is_running l p ≡ true)
          (sym (turn-stays s event next (subst (λ e. IsPlay s e next) is g.1))) here
      by (Tick node) is = nobody-stopped (sizes_of site) packets_seen counts (SoundPlay site) (watched site few) counted
          few
          (length events) agenda s next (fresh events agenda s played) plan comes (
            (sounded events agenda s played).0,
            g,
            loads-none (length events) agenda s (fresh events agenda s played) plan comes,
          )
          node p is low here

  -- Stops are paid

  -- as long as the world is whole, and none after that
  record IsSingle (agenda : Agenda) (s : Packeted) : Type 0 where
    at_most : to_come agenda ≤ 1
    none : is_whole s.world ≡ false → to_come agenda ≡ 0

  -- whatever comes next but a stop leaves a whole world whole
  stays-whole : (events : List Event) (agenda : Agenda) (s : Packeted)
      → PlaysOn (sizes_of site) counts IsClearPlay (packeted_at_boot site) lines stop events agenda s → (plan : Plan)
      → next_plan (sizes_of site) (length events) (counts s) agenda ≡ Some plan → (next : Packeted)
      → IsClearPlay s plan.event next → is_stop plan.event ≡ false → is_whole s.world ≡ true
      → is_whole next.world ≡ true
  stays-whole events agenda s played plan comes next (clear, inr skips) no_stop whole =
      ap (λ (u : Packeted). is_whole u.world) skips.1 ∙ whole
  stays-whole events agenda s played plan comes next (clear, inl made) no_stop whole =
      elim (play-whole s plan.event next not-stopping made whole) [
        | inl still ↦ still
        | inr gone ↦ (let low = slice_get_within s.world.stopped gone.0 false gone.1 in
            let size = (sounded events agenda s played).0.size in
            let runs = goes-on-running events agenda s played plan comes next (clear, inl made) no_stop gone.0
            (omega (arith, low, size)) (ap (runs_by gone.0) gone.1) in
            let bad : true ≡ false = sym runs ∙ gone.2 in absurd (cc))
      ]
    where
      not-stopping : (processor : ℕ) → plan.event ≡ Fail processor → ⊥
      not-stopping processor is = let bad : true ≡ false = ap is_stop (sym is) ∙ no_stop in cc

  stop-or-not : (event : Event)
      → ((is_stop event ≡ true) × (stops_in event 1 ≡ 1)) ⊎ ((is_stop event ≡ false) × (stops_in event 1 ≡ 0))
  stop-or-not (Run number) = inr (refl, refl)
  stop-or-not (Enter number) = inr (refl, refl)
  stop-or-not (Deliver bus k) = inr (refl, refl)
  stop-or-not (Lose bus k) = inr (refl, refl)
  stop-or-not (Repeat bus k) = inr (refl, refl)
  stop-or-not (Tick node) = inr (refl, refl)
  stop-or-not (Fail processor) = inl (refl, refl)
  stop-or-not (Reload processor) = inr (refl, refl)
  stop-or-not (Drive event) = inr (refl, refl)

  paid-by : (agenda : Agenda) (s : Packeted) (before : ℕ) (plan : Plan)
      → next_plan (sizes_of site) before (counts s) agenda ≡ Some plan
      → stops_in plan.event 1 + to_come plan.agenda ≤ to_come agenda
  paid-by agenda s before plan comes =
      subst (IsPaid (to_come agenda)) (sym (same-upcoming (sizes_of site) before (counts s) agenda) ∙ comes)
      (upcoming-paid (sizes_of site) before (λ player. counts s) agenda)

  single : stops_asked lines stop ≤ 1 → (events : List Event) (agenda : Agenda) (s : Packeted)
      → PlaysOn (sizes_of site) counts IsClearPlay (packeted_at_boot site) lines stop events agenda s
      → IsSingle agenda s
  single asked _ _ _ plays_none = record {
    at_most = omega (arith, asked);
    none = λ broken. absurd (let bad : true ≡ false = sym (begins-whole site) ∙ broken in cc);
  }
  single asked _ _ _ (plays_on {events = events} {agenda = agenda} {s = s} {next = next} plan before comes g) =
      by (single asked events agenda s before) (stop-or-not plan.event)
    where
      paid : stops_in plan.event 1 + to_come plan.agenda ≤ to_come agenda
      paid = paid-by agenda s (length events) plan comes

      by : IsSingle agenda s
          → ((is_stop plan.event ≡ true) × (stops_in plan.event 1 ≡ 1))
          ⊎ ((is_stop plan.event ≡ false) × (stops_in plan.event 1 ≡ 0)) → IsSingle plan.agenda next
      by one (inl stops) = let most = one.at_most in let cost = stops.1 in record {
        at_most = omega (arith, most, paid, cost);
        none = λ broken. omega (arith, most, paid, cost);
      }
      by one (inr free) = let most = one.at_most in record {
        at_most = omega (arith, most, paid);
        none = λ broken. after (is_whole s.world) refl broken;
      }
        where
          after : (whole : Bool) → is_whole s.world ≡ whole → is_whole next.world ≡ false → to_come plan.agenda ≡ 0
          after true whole broken =
              absurd (let still = stays-whole events agenda s before plan comes next g free.0 whole in
              let bad : true ≡ false = sym still ∙ broken in cc)
          after false whole broken = let none = one.none whole in omega (arith, none, paid)

  -- nothing that comes next would do harm
  pub never-harm : stops_asked lines stop ≤ 1 → (events : List Event) (agenda : Agenda) (s : Packeted)
      → PlaysOn (sizes_of site) counts IsClearPlay (packeted_at_boot site) lines stop events agenda s → (plan : Plan)
      → next_plan (sizes_of site) (length events) (counts s) agenda ≡ Some plan → (harm : Harm)
      → play s plan.event ≡ Would harm → ⊥
  never-harm asked events agenda s played plan comes harm would = by plan.event refl
    where
      sound : IsSound site s
      sound = (sounded events agenda s played).0

      at : (event : Event) → plan.event ≡ event → play s event ≡ Would harm
      at event is = subst (λ e. play s e ≡ Would harm) is would

      quiet : (event : Event) → plan.event ≡ event → is_quiet event ≡ true → ⊥
      quiet event is calm = of (acted s event) (quiet-keeps s event calm) (at event is)
        where
          of : (p : Played Midst) → KeepsIf s p → ended (taken_off event s.wires) p ≡ Would harm → ⊥
          of (Makes after) k bad = absurd (cc)
          of Skips k bad = absurd (cc)
          of (Would other) k bad = k

      stopping : (processor : ℕ) → plan.event ≡ Fail processor → ⊥
      stopping processor is = of (acted s (Fail processor)) (stop-leaves s processor) (at (Fail processor) is)
        where
          of : (p : Played Midst) → StopsIf s p → ended s.wires p ≡ Would harm → ⊥
          of (Makes after) k bad = absurd (cc)
          of Skips k bad = absurd (cc)
          of (Would other) broken bad =
              let none = (single asked events agenda s played).none broken in
              let paid = paid-by agenda s (length events) plan comes in
              let cost : stops_in plan.event 1 ≡ 1 = ap (λ e. stops_in e 1) is in omega (arith, none, paid, cost)

      ticking : (node : ℕ) → plan.event ≡ Tick node → ⊥
      ticking node is = of (acted s (Tick node)) (ticks-so s node) (at (Tick node) is)
        where
          of : (p : Played Midst) → TicksIf node s p → ended s.wires p ≡ Would harm → ⊥
          of (Makes after) k bad = absurd (cc)
          of Skips k bad = absurd (cc)
          of (Would (DiscLoss process)) so bad = so
          of (Would (SecondStop k)) so bad =
              let line = line-pulled site few s node k sound so.0 so.1 in
              let within = slice_get_within s.world.stopped k false so.2 in let size = sound.size in
              nobody-silent (sizes_of site) packets_seen counts counted few (length events) agenda s
              (fresh events agenda s played) plan comes node k is (record {
                one = line.one;
                other = (let low : k < site.processors = omega (arith, within, size) in low);
                apart = line.apart;
                here = line.runs;
                there = ap (runs_by k) so.2;
              }) line.silent

      turning : (event : DriveEvent) → plan.event ≡ Drive event → ⊥
      turning event is =
          no-drive (sizes_of site) packets_seen counts counted (length events) agenda s
          (fresh events agenda s played) plan comes event is

      by : (event : Event) → plan.event ≡ event → ⊥
      by (Run number) is = quiet (Run number) is refl
      by (Enter number) is = quiet (Enter number) is refl
      by (Deliver bus k) is = quiet (Deliver bus k) is refl
      by (Lose bus k) is = quiet (Lose bus k) is refl
      by (Repeat bus k) is = quiet (Repeat bus k) is refl
      by (Tick node) is = ticking node is
      by (Fail processor) is = stopping processor is
      by (Reload processor) is =
          no-reload (sizes_of site) packets_seen counts counted (length events) agenda s
          (fresh events agenda s played) plan comes processor is
      by (Drive event) is = turning event is

-- A calm schedule asks for one stop at most

line-stops : (line : Line) → is_calm_line line ≡ true → stops_of line ≡ cond (stops_one line) 1 0
line-stops (One (Fail processor)) calm = refl
line-stops (One (Run number)) calm = refl
line-stops (One (Enter number)) calm = refl
line-stops (One (Deliver bus k)) calm = refl
line-stops (One (Lose bus k)) calm = refl
line-stops (One (Repeat bus k)) calm = refl
line-stops (One (Tick node)) calm = refl
line-stops (One (Reload processor)) calm = refl
line-stops (One (Drive event)) calm = refl
line-stops (Many event times) calm = absurd (cc)
line-stops (Drain rounds) calm = refl
line-stops (Mix start rounds) calm = refl
line-stops (Mute node rounds) calm = refl
line-stops (Until writes count rounds) calm = refl

both : (a b : Bool) → (a && b) ≡ true → (a ≡ true) × (b ≡ true)
both true b is = (refl, is)
both false b is = absurd (cc)

lines-stop : (lines : List Line) → list_all is_calm_line lines ≡ true → stops_of_lines lines ≡ count_by stops_one lines
lines-stop [] calm = refl
lines-stop (line ∷ lines) calm =
    let c = both (is_calm_line line) (list_all is_calm_line lines) calm in
    let one = line-stops line c.0 in let more = lines-stop lines c.1 in
    let all = sum_by-cons (λ line. cond (stops_one line) 1 0) line lines in omega (arith, one, more, all)

pub calm-asks : (lines : List Line) (stop : Option ProcessorStop) → IsCalm lines (is_some stop)
    → stops_asked lines stop ≤ 1
calm-asks lines None calm = let same = lines-stop lines calm.0 in let most = calm.1 in omega (arith, same, most)
calm-asks lines (Some stop) calm = let same = lines-stop lines calm.0 in let most = calm.1 in omega (arith, same, most)
