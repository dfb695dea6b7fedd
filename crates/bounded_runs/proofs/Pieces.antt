-- Six clear rounds in a row of what a schedule plays end each piece that was outstanding.
use Rattle.std.proofs.Common.{◌≡◌, ◌≤◌, ◌<◌, ℕ, suc, ◌+◌, true, List, length, Option, Some, refl, subst, arith}
use Rattle.tal_tree.specs.declared.site.Site.{Site}
use Rattle.schedule.specs.declared.event.Event.{Event}
use Rattle.schedule.specs.declared.line.Line.{Line}
use Rattle.player.specs.declared.standing.Sizes.{Sizes}
use Rattle.player.specs.declared.stop.ProcessorStop.{ProcessorStop}
use Rattle.agendas.specs.Agendas.{Agenda, Plan}
use Rattle.link_control.specs.Ends.{End}
use Rattle.world_semantics.specs.World.{is_running}
use Rattle.channel_laws.specs.Way.{IsOutstanding}
use Rattle.packet_wires.specs.Nodes.{end_at}
use Rattle.packet_wires.specs.Play.{IsClear, Packeted, packeted_at_boot}
use Rattle.round_laws.specs.Stretches.{BeginsRound, GoesOn, at_once, plays}
use Rattle.calm_runs.specs.packet_rounds.specs.Pieces.{IsAcknowledged}
use Rattle.calm_runs.specs.packet_rounds.specs.Played.{IsClearPlay, IsPlay}
use Rattle.calm_runs.specs.packet_rounds.proofs.Rounds.{lines-end}
use Rattle.schedule_loop.specs.Ends.{Plays, planned_in}
use Rattle.schedule_loop.specs.Rules.{IsPlayBy, sight_of}
use Rattle.packet_lengths.specs.packet_runs.proofs.Played.{played}
use Rattle.packet_lengths.specs.packet_runs.specs.Runs.{course_on, packet_rules, sizes_of}
use Rattle.bounded_runs.specs.Moments.{AreClear, AreDrainRounds, Moment, counts_in}
use Rattle.bounded_runs.specs.Places.{is_in_drain_round}
use Rattle.bounded_runs.proofs.Playing.{alive_in, counted, one-next, sender_in}
use Rattle.bounded_runs.proofs.Stretches.{Cut, DrainSteps, PlannedOn, at_first, counted-on, counted_plans, cut}
use Rattle.bounded_runs.proofs.Stretches.{seen_plans, then_on}

-- an event is played, and is clear if it leaves the schedule in a drain round
abbrev ClearStep : Packeted → Plan → Packeted → Type 0
ClearStep s plan next =
    (is_in_drain_round plan.agenda.standing ≡ true → IsClear s plan.event) × IsPlay s plan.event next

abbrev ClearDrains : Sizes → Packeted → Plan → Packeted → Type 0
ClearDrains sizes = DrainSteps sizes counts_in alive_in sender_in ClearStep

goes-clear : (sizes : Sizes) (before : ℕ) (agenda : Agenda) (s : Packeted) (between : List Event) (now : ℕ)
    (there : Agenda) (t : Packeted)
    → PlannedOn (counted_plans sizes counts_in alive_in sender_in ClearStep) (ClearDrains sizes) before agenda s between
    now there t
    → GoesOn sizes counts_in IsClearPlay before agenda s now there t
goes-clear sizes before agenda s _ _ _ _ at_first = at_once
goes-clear sizes before agenda s _ _ _ _ (then_on {between = between} {now = now} {there = there} {t = t} plan on comes
    step) =
    plays plan (goes-clear sizes before agenda s between now there t on) comes (step.0.0 step.1, step.0.1)

module _ (site : Site) (lines : List Line) (stop : Option ProcessorStop) (first last : Moment site lines stop) where
  -- what leads from the first moment to the last
  stretch : AreClear site lines stop (length first.events) (length last.events)
      → length first.events ≤ length last.events
      → Cut (seen_plans (sizes_of site) counts_in alive_in sender_in ClearStep) ClearStep first.events last.events
      first.agenda last.agenda first.state last.state
  stretch clear later =
      cut (sizes_of site) (sight_of packet_rules) (IsPlayBy packet_rules) one-next (packeted_at_boot site) lines stop
      ClearStep (length first.events) (length last.events) more first.events last.events first.agenda last.agenda
      first.state last.state refl first.played last.played later
      (let all : length last.events ≤ length last.events = omega arith in all)
    where
      more : (events : List Event) (agenda : Agenda) (s : Packeted) (plan : Plan) (next : Packeted)
          → Plays packet_rules (course_on site lines stop) events agenda s
          → planned_in packet_rules (sizes_of site) (length events) s agenda ≡ Some plan
          → IsPlayBy packet_rules s plan.event next → length first.events ≤ length events
          → length events < length last.events → ClearStep s plan next
      more events agenda s plan next plays_so comes playing from to = (
        clear (record { events = events; agenda = agenda; state = s; played = plays_so }) plan from to comes,
        playing,
      )

  pub six-end : site.processors ≤ 16 → AreDrainRounds site lines stop 6 first last
      → AreClear site lines stop (length first.events) (length last.events) → (a b n : ℕ)
      → is_running last.state.world.stopped a ≡ true → is_running last.state.world.stopped b ≡ true → (e : End)
      → end_at first.state.wires.nodes a b ≡ Some e → IsOutstanding n e.sending → IsAcknowledged last.state a b n
  six-end few rounds clear =
      let c = stretch clear rounds.later in
      let on = counted-on (sizes_of site) counts_in alive_in sender_in ClearStep rounds.rule rounds.drains
      (rounds.left + 6) rounds.rest (length first.events) first.agenda first.state rounds.begins c.between
      (length last.events) last.agenda last.state c.on rounds.ends.lines in
      lines-end site few first.events first.state (played {lines = lines} {stop = stop} first.played) counts_in counted
      rounds.rule rounds.drains rounds.left 2 rounds.rest (length first.events) (length last.events) first.agenda
      last.agenda last.state
      (subst (λ all. BeginsRound (sizes_of site) (counts_in first.state) first.agenda rounds.rule all rounds.rest)
      (let same : rounds.left + 6 ≡ rounds.left + suc (suc (suc (suc 2))) = omega arith in same) rounds.begins)
      (goes-clear (sizes_of site) (length first.events) first.agenda first.state c.between (length last.events)
      last.agenda last.state on)
      rounds.ends
