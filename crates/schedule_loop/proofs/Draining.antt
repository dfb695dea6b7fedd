-- Deliveries of a drain, which come next whatever is counted.
use Rattle.std.proofs.Common.{◌≡◌, ◌<◌, ℕ, ◌+◌, ◌-◌, Bool, true, nat_lt, if◌then◌else◌, List, Option, Some, None}
use Rattle.std.proofs.Common.{refl, ap, ap₂, sym, subst, inl}
use Rattle.std.proofs.lemmas.Bool.{lt-ltb}
use Rattle.std.specs.Option.{IfSome, option_map}
use Rattle.schedule.specs.declared.bus_name.BusName.{BusName}
use Rattle.schedule.specs.declared.bus_name.BusName.TheVariants as bus
use Rattle.schedule.specs.declared.event.Counts.{Counts}
use Rattle.schedule.specs.declared.event.Event.{Event}
use Rattle.schedule.specs.declared.event.Event.TheVariants.{Deliver}
use Rattle.schedule.specs.declared.line.Line.{Line}
use Rattle.player.specs.declared.standing.LinePlace.{LinePlace}
use Rattle.player.specs.declared.standing.LinePlace.TheVariants as standing
use Rattle.player.specs.declared.standing.Move.{Move}
use Rattle.player.specs.declared.standing.Place.TheVariants as place
use Rattle.player.specs.declared.standing.Rule.TheVariants as rule
use Rattle.player.specs.declared.standing.Sizes.{Sizes}
use Rattle.player.specs.declared.standing.Turn.{Turn}
use Rattle.player.specs.declared.stop.ProcessorStop.{ProcessorStop}
use Rattle.player.specs.Lines.{bus_to_drain, moved, next_event, with_packets_left}
use Rattle.player.specs.Rounds.{delivers_y, next_turn, ticks, turn}
use Rattle.agendas.specs.Agendas.{Plan, coming, stopped_by}
use Rattle.machine_states.specs.States.{DiscLoss, Makes, Played, SecondStop, Settles, Skips, State, Would}
use Rattle.machine_states.specs.declared.effect.Effect.TheVariants as effect
use Rattle.schedule_loop.specs.Ends.{Course}
use Rattle.schedule_loop.specs.Looks.{asks_packet}
use Rattle.schedule_loop.specs.Plans.{planned_seen}
use Rattle.schedule_loop.specs.Playing.{IsPlaying}
use Rattle.schedule_loop.specs.Rules.{Rules, sight_of}
use Rattle.schedule_loop.specs.Seen.{IsDraining, Scheduled, event_in, with_left}
use Rattle.schedule_loop.proofs.Playing.{Coming, goes_on}

-- a drain stands in a round that delivers
drains : (at : LinePlace) (bus : BusName) (packets : ℕ) → bus_to_drain at ≡ Some (bus, packets)
    → (left : ℕ) × (at ≡ standing.Rounds rule.Drain left (place.Delivers bus packets))
drains standing.Ended bus packets is = absurd (cc)
drains (standing.Event event left) bus packets is = absurd (cc)
drains (standing.Rounds (rule.Mute node) left place) bus packets is = absurd (cc)
drains (standing.Rounds (rule.Until writes count) left place) bus packets is = absurd (cc)
drains (standing.Rounds rule.Drain left place.Before) bus packets is = absurd (cc)
drains (standing.Rounds rule.Drain left (place.Enters terminal)) bus packets is = absurd (cc)
drains (standing.Rounds rule.Drain left (place.Runs process)) bus packets is = absurd (cc)
drains (standing.Rounds rule.Drain left (place.Delivers other before)) bus packets is =
    let same : (other, before) ≡ (bus, packets) = cc in
    (left, ap (λ (both : BusName × ℕ). standing.Rounds rule.Drain left (place.Delivers both.0 both.1)) same)
drains (standing.Rounds rule.Drain left (place.Ticks node)) bus packets is = absurd (cc)
drains (standing.Mixed left place draws) bus packets is = absurd (cc)

pub delivers : (sizes : Sizes) (x z : ℕ) (bus : BusName) (packets : ℕ) → nat_lt 0 packets ≡ true
    → next_turn sizes x z (place.Delivers bus packets) ≡ turn (Deliver bus 0) (place.Delivers bus (packets - 1))
delivers sizes x z bus.Y packets some =
    ap (λ (b : Bool). if b then turn (Deliver bus.Y 0) (place.Delivers bus.Y (packets - 1)) else ticks sizes 0) some
delivers sizes x z bus.X packets some =
    ap (λ (b : Bool). if b then turn (Deliver bus.X 0) (place.Delivers bus.X (packets - 1)) else delivers_y sizes z)
    some

next-delivery : (sizes : Sizes) (left : ℕ) (bus : BusName) (packets : ℕ) (counts : Counts) → 0 < packets
    → next_event sizes (standing.Rounds rule.Drain left (place.Delivers bus packets)) counts
    ≡ Some (moved rule.Drain left (turn (Deliver bus 0) (place.Delivers bus (packets - 1))))
next-delivery sizes left bus packets counts some =
    ap (λ (one : Turn). Some (moved rule.Drain left one))
    (delivers sizes counts.x counts.y bus packets (lt-ltb 0 packets some))

pub makes : {Wires : Type 0} (played : Played Wires) (before after : State Wires)
    → Settles played before effect.Done after → played ≡ Makes after
makes (Makes next) before after is = ap Makes (sym is.1)
makes Skips before after is = absurd (cc)
makes (Would (SecondStop processor)) before after is = absurd (cc)
makes (Would (DiscLoss process)) before after is = absurd (cc)

abbrev Goes_on : {Wires : Type 0} → Rules Wires → Course Wires → Scheduled → State Wires → State Wires → ℕ → ℕ
    → Type 0
Goes_on rules course all s next n packets =
    IsPlaying rules course (with_left packets all) s n
    → IsPlaying rules course (with_left (packets - 1) all) next (n + 1)

abbrev delivering : Sizes → List Line → Option ProcessorStop → LinePlace → Option Event → Scheduled
delivering sizes lines stop at held_back =
    record { sizes = sizes; agenda = record { standing = at; lines = lines; stop = stop; held_back = held_back } }

one-delivered : {Wires : Type 0} (rules : Rules Wires) (course : Course Wires) (sizes : Sizes) (lines : List Line)
    (stop : Option ProcessorStop) (left : ℕ) (bus : BusName) (packets : ℕ) (s next : State Wires) (n before : ℕ)
    → 0 < packets → coming stop n ≡ None → rules.play s (Deliver bus 0) ≡ Makes next
    → Goes_on rules course
    (delivering sizes lines stop (standing.Rounds rule.Drain left (place.Delivers bus before)) None) s next n packets
one-delivered rules course sizes lines stop left bus packets s next n before some none made playing =
    let here : Scheduled =
    delivering sizes lines stop (standing.Rounds rule.Drain left (place.Delivers bus packets)) None in
    let after : Scheduled =
    delivering sizes lines stop (standing.Rounds rule.Drain left (place.Delivers bus (packets - 1))) None in
    let comes : Coming rules here s n ≡ Some (record { event = Deliver bus 0; agenda = after.agenda }) =
    ap₂ (λ (halt : Option ℕ) (move : Option Move).
    option_map (stopped_by halt) (planned_seen sizes (sight_of rules s) stop lines move)) none
    (next-delivery sizes left bus packets (sight_of rules s (record { sizes = sizes; standing = here.agenda.standing }))
    some) in
    goes_on rules course here after s next n (Deliver bus 0) playing (ap event_in comes)
    (subst (λ (plan : Option Plan). IfSome plan (λ one. after ≡ record here { agenda = one.agenda })) (sym comes) refl)
    (inl made)

-- the first packet of the bus is delivered
pub goes-on : {Wires : Type 0} (rules : Rules Wires) (course : Course Wires) (all : Scheduled) (bus : BusName)
    (packets left : ℕ) (s next : State Wires) (n : ℕ) → IsDraining all.agenda (Some (bus, packets)) → 0 < left
    → coming all.agenda.stop n ≡ None → Settles (rules.play s (Deliver bus 0)) s effect.Done next
    → IsPlaying rules course (with_left left all) s n
    → IsPlaying rules course (with_left (left - 1) all) next (n + 1)
goes-on rules course all bus packets left s next n is some none done =
    let found : (r : ℕ) × (all.agenda.standing ≡ standing.Rounds rule.Drain r (place.Delivers bus packets)) =
    drains all.agenda.standing bus packets is.1 in
    subst (λ (at : LinePlace). Goes_on rules course
    (delivering all.sizes all.agenda.lines all.agenda.stop at all.agenda.held_back) s next n left) (sym found.1)
    (subst (λ (held : Option Event). Goes_on rules course
    (delivering all.sizes all.agenda.lines all.agenda.stop
    (standing.Rounds rule.Drain found.0 (place.Delivers bus packets)) held) s next n left) (sym is.0)
    (one-delivered rules course all.sizes all.agenda.lines all.agenda.stop found.0 bus left s next n packets some none
    (makes (rules.play s (Deliver bus 0)) s next done)))

-- from the first delivery on, whatever the course
abbrev pub GoesOn : {Wires : Type 0} → Rules Wires → Scheduled → State Wires → ℕ → ℕ → State Wires → ℕ → Type 0
GoesOn rules all start before left s n =
    (course : Course _) → IsPlaying rules course all start before → IsPlaying rules course (with_left left all) s n

pub one-more : {Wires : Type 0} (rules : Rules Wires) (all : Scheduled) (start : State Wires) (before : ℕ)
    (bus : BusName)
    (packets left : ℕ) (s next : State Wires) (n : ℕ) → IsDraining all.agenda (Some (bus, packets)) → 0 < left
    → coming all.agenda.stop n ≡ None → Settles (rules.play s (Deliver bus 0)) s effect.Done next
    → GoesOn rules all start before left s n → GoesOn rules all start before (left - 1) next (n + 1)
one-more rules all start before bus packets left s next n is some none done goes course playing =
    goes-on rules course all bus packets left s next n is some none done (goes course playing)

-- before the first one all are left
pub at-first : (all : Scheduled) (bus : BusName) (packets : ℕ) → IsDraining all.agenda (Some (bus, packets))
    → with_left packets all ≡ all
at-first all bus packets is =
    let found : (r : ℕ) × (all.agenda.standing ≡ standing.Rounds rule.Drain r (place.Delivers bus packets)) =
    drains all.agenda.standing bus packets is.1 in
    subst (λ (at : LinePlace). with_left packets
    (delivering all.sizes all.agenda.lines all.agenda.stop at all.agenda.held_back)
    ≡ delivering all.sizes all.agenda.lines all.agenda.stop at all.agenda.held_back) (sym found.1) refl

-- and the line looks at packets, or doesn't, as before
pub looks-as-before : (packets : ℕ) (at : LinePlace) → asks_packet (with_packets_left packets at) ≡ asks_packet at
looks-as-before packets standing.Ended = refl
looks-as-before packets (standing.Event event left) = refl
looks-as-before packets (standing.Rounds rule.Drain left place.Before) = refl
looks-as-before packets (standing.Rounds rule.Drain left (place.Enters terminal)) = refl
looks-as-before packets (standing.Rounds rule.Drain left (place.Runs process)) = refl
looks-as-before packets (standing.Rounds rule.Drain left (place.Delivers bus before)) = refl
looks-as-before packets (standing.Rounds rule.Drain left (place.Ticks node)) = refl
looks-as-before packets (standing.Rounds (rule.Until writes count) left place.Before) = refl
looks-as-before packets (standing.Rounds (rule.Until writes count) left (place.Enters terminal)) = refl
looks-as-before packets (standing.Rounds (rule.Until writes count) left (place.Runs process)) = refl
looks-as-before packets (standing.Rounds (rule.Until writes count) left (place.Delivers bus before)) = refl
looks-as-before packets (standing.Rounds (rule.Until writes count) left (place.Ticks node)) = refl
looks-as-before packets (standing.Rounds (rule.Mute node) left place.Before) = refl
looks-as-before packets (standing.Rounds (rule.Mute node) left (place.Enters terminal)) = refl
looks-as-before packets (standing.Rounds (rule.Mute node) left (place.Runs process)) = refl
looks-as-before packets (standing.Rounds (rule.Mute node) left (place.Delivers bus before)) = refl
looks-as-before packets (standing.Rounds (rule.Mute node) left (place.Ticks tick)) = refl
looks-as-before packets (standing.Mixed left place draws) = refl
