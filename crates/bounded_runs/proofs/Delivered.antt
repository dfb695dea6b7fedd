-- A whole drain round of what a schedule plays delivers all that was on the buses as it began.
use Rattle.std.proofs.Common.{◌≡◌, ◌≤◌, ℕ, zero, suc, ◌+◌, ◌∙◌, inl, inr, List, [], ◌∷◌, ◌++◌, length}
use Rattle.std.proofs.Common.{Option, refl, ap, sym, subst, arith}
use Rattle.std.proofs.lemmas.List.{append_assoc, append-nil, append_cancel_left}
use Rattle.tal_tree.specs.declared.site.Site.{Site}
use Rattle.schedule.specs.declared.bus_name.BusName.{BusName}
use Rattle.schedule.specs.declared.event.Counts.{Counts}
use Rattle.schedule.specs.declared.event.Event.{Event}
use Rattle.schedule.specs.declared.line.Line.{Line}
use Rattle.player.specs.declared.standing.Sizes.{Sizes}
use Rattle.player.specs.declared.standing.Place.{Place}
use Rattle.player.specs.declared.stop.ProcessorStop.{ProcessorStop}
use Rattle.agendas.specs.Agendas.{Agenda, Plan}
use Rattle.packet_words.specs.declared.packet.Packet.{Packet}
use Rattle.packet_wires.specs.Play.{Packeted, packeted_at_boot, play}
use Rattle.round_laws.specs.Buses.{IsGrown, delivered_of}
use Rattle.round_laws.specs.Rounds.{AreRounds, InRound, IsWholeRound, begins, goes_on, no_round, one_more, stops}
use Rattle.round_laws.specs.Stretches.{GoesOn, at_once, plays}
use Rattle.round_laws.proofs.Delivering.{all-delivered}
use Rattle.round_laws.proofs.Stretching.{stretch-rounds}
use Rattle.calm_runs.specs.packet_rounds.specs.Played.{IsPlay, buses_of}
use Rattle.calm_runs.specs.packet_rounds.proofs.Buses.{has-buses}
use Rattle.schedule_loop.specs.Rules.{IsPlayBy, sight_of}
use Rattle.packet_lengths.specs.packet_runs.specs.Runs.{packet_rules, sizes_of}
use Rattle.bounded_runs.specs.Moments.{AreDrainRounds, Moment, counts_in, delivered_by, state_after}
use Rattle.bounded_runs.proofs.Playing.{alive_in, one-next, sender_in}
use Rattle.bounded_runs.proofs.Stretches.{Cut, DrainSteps, PlannedOn, at_first, counted-on, counted_plans, cut}
use Rattle.bounded_runs.proofs.Stretches.{seen_plans, then_on}

-- One event more

after_all : Packeted → List Event → Packeted
after_all s [] = s
after_all s (event ∷ rest) = after_all (state_after s (play s event)) rest

after-more : (s : Packeted) (events : List Event) (event : Event)
    → after_all s (events ++ event ∷ []) ≡ state_after (after_all s events) (play (after_all s events) event)
unfolding after_all
after-more s [] event = refl
after-more s (one ∷ rest) event = after-more (state_after s (play s one)) rest event

delivered-more : (bus : BusName) (s : Packeted) (events : List Event) (event : Event)
    → delivered_by bus s (events ++ event ∷ [])
    ≡ delivered_by bus s events ++ delivered_of bus event (buses_of (after_all s events) bus)
unfolding after_all
delivered-more bus s [] event = append-nil (delivered_of bus event (buses_of s bus))
delivered-more bus s (one ∷ rest) event =
    ap (λ (l : List Packet). delivered_of bus one (buses_of s bus) ++ l)
    (delivered-more bus (state_after s (play s one)) rest event)
    ∙ sym (append_assoc (delivered_of bus one (buses_of s bus))
    (delivered_by bus (state_after s (play s one)) rest)
    (delivered_of bus event (buses_of (after_all (state_after s (play s one)) rest) bus)))

state-is : (s : Packeted) (event : Event) (next : Packeted) → IsPlay s event next
    → state_after s (play s event) ≡ next
state-is s event next (inl made) = ap (state_after s) made
state-is s event next (inr skipped) = ap (state_after s) skipped.0 ∙ sym skipped.1

-- A state with what was delivered so far

record Logged : Type 0 where
  state : Packeted
  log : BusName → List Packet

abbrev Logs : Logged → Event → Logged → Type 0
Logs one event other = IsPlay one.state event other.state
    × ((bus : BusName) → other.log bus ≡ one.log bus ++ delivered_of bus event (buses_of one.state bus))

abbrev logged_buses : Logged → BusName → List Packet
logged_buses one = buses_of one.state

abbrev logged_counts : Logged → Counts
logged_counts one = counts_in one.state

abbrev PlayStep : Packeted → Plan → Packeted → Type 0
PlayStep s plan next = IsPlay s plan.event next

module _ (sizes : Sizes) (before : ℕ) (agenda : Agenda) (s : Packeted) where
  abbrev IsOn : List Event → ℕ → Agenda → Packeted → Type 0
  IsOn = PlannedOn (counted_plans sizes counts_in alive_in sender_in PlayStep)
      (DrainSteps sizes counts_in alive_in sender_in PlayStep) before agenda s

  ends-there : (between : List Event) (now : ℕ) (there : Agenda) (t : Packeted) → IsOn between now there t
      → after_all s between ≡ t
  unfolding after_all
  ends-there _ _ _ _ at_first = refl
  ends-there _ _ _ _ (then_on {between = between} {now = now} {there = there} {t = t} {next = next} plan on comes step)
      =
      after-more s between plan.event
      ∙ (ap (λ (u : Packeted). state_after u (play u plan.event)) (ends-there between now there t on)
      ∙ state-is t plan.event next step.0)

  goes-logged : (between : List Event) (now : ℕ) (there : Agenda) (t : Packeted) → IsOn between now there t
      → GoesOn sizes logged_counts Logs before agenda (record { state = s; log = λ bus. [] }) now there
      (record { state = t; log = λ bus. delivered_by bus s between })
  goes-logged _ _ _ _ at_first = at_once
  goes-logged _ _ _ _ (then_on {between = between} {now = now} {there = there} {t = t} plan on comes step) =
      plays plan (goes-logged between now there t on) comes (
        step.0,
        λ bus. delivered-more bus s between plan.event
            ∙ ap (λ (u : Packeted). delivered_by bus s between ++ delivered_of bus plan.event (buses_of u bus))
            (ends-there between now there t on),
      )

-- What a round delivered is what was logged

came-logged : (sizes : Sizes) (start : Logged) (came : BusName → List Packet) (at : Place) (s : Logged)
    → InRound sizes logged_buses Logs start came at s → (bus : BusName) → s.log bus ≡ start.log bus ++ came bus
came-logged sizes start _ _ _ begins bus = sym (append-nil (start.log bus))
came-logged sizes start _ _ _ (goes_on {came = came} {from = from} {s = s} event to round turn more g) bus =
    g.1 bus
    ∙ (ap (λ (l : List Packet). l ++ delivered_of bus event (buses_of s.state bus))
    (came-logged sizes start came from s round bus)
    ∙ append_assoc (start.log bus) (came bus) (delivered_of bus event (buses_of s.state bus)))
came-logged sizes start _ _ _ (stops {came = came} {from = from} {s = s} processor round g) bus =
    g.1 bus ∙ (append-nil (s.log bus) ∙ came-logged sizes start came from s round bus)

one-round : (sizes : Sizes) (start next : Logged) → AreRounds sizes logged_buses Logs start (suc zero) next
    → IsWholeRound sizes logged_buses Logs start next
one-round sizes start next (one_more no_round whole) = whole

round-logged : (sizes : Sizes) (start next : Logged) → IsWholeRound sizes logged_buses Logs start next → (bus : BusName)
    → start.log bus ≡ [] → IsGrown (buses_of start.state bus) (next.log bus)
round-logged sizes start next whole bus empty =
    let grown = all-delivered sizes logged_buses Logs
    (λ one event other g. has-buses one.state event other.state g.0) start next whole bus in (
      grown.0,
      whole.ended.1 bus ∙ (append-nil (whole.last.log bus)
          ∙ (came-logged sizes start whole.came whole.from whole.last whole.made bus
          ∙ (ap (λ (l : List Packet). l ++ whole.came bus) empty ∙ grown.1))),
    )

module _ (site : Site) (lines : List Line) (stop : Option ProcessorStop) (first last : Moment site lines stop) where
  stretch : length first.events ≤ length last.events
      → Cut (seen_plans (sizes_of site) counts_in alive_in sender_in PlayStep) PlayStep first.events last.events
      first.agenda last.agenda first.state last.state
  stretch later =
      cut (sizes_of site) (sight_of packet_rules) (IsPlayBy packet_rules) one-next (packeted_at_boot site) lines stop
      PlayStep (length first.events) (length last.events)
      (λ events agenda s plan next plays_so comes playing from to. playing) first.events last.events first.agenda
      last.agenda first.state last.state refl first.played last.played later
      (let all : length last.events ≤ length last.events = omega arith in all)

  pub round-delivers : AreDrainRounds site lines stop 1 first last → (between : List Event)
      → last.events ≡ first.events ++ between → (bus : BusName)
      → IsGrown (buses_of first.state bus) (delivered_by bus first.state between)
  round-delivers rounds between joined bus =
      let c = stretch rounds.later in
      let on = counted-on (sizes_of site) counts_in alive_in sender_in PlayStep rounds.rule rounds.drains
      (rounds.left + 1) rounds.rest (length first.events) first.agenda first.state rounds.begins c.between
      (length last.events) last.agenda last.state c.on rounds.ends.lines in
      let made = stretch-rounds (sizes_of site) logged_buses logged_counts Logs
      (λ one event other g. has-buses one.state event other.state g.0) (λ one. (refl, refl)) rounds.rule rounds.drains
      rounds.left zero rounds.rest (length first.events) (length last.events) first.agenda last.agenda
      (record { state = first.state; log = λ side. [] })
      (record { state = last.state; log = λ side. delivered_by side first.state c.between }) rounds.begins
      (goes-logged (sizes_of site) (length first.events) first.agenda first.state c.between (length last.events)
      last.agenda last.state on)
      rounds.ends in
      subst (λ (events : List Event). IsGrown (buses_of first.state bus) (delivered_by bus first.state events))
      (append_cancel_left first.events c.between between (sym c.joined ∙ joined))
      (round-logged (sizes_of site) (record { state = first.state; log = λ side. [] })
      (record { state = last.state; log = λ side. delivered_by side first.state c.between })
      (one-round (sizes_of site) _ _ made) bus refl)
