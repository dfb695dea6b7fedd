-- Where a schedule asks for one stop at most, none is still to come once the world isn't whole.
use Rattle.std.proofs.Common.{◌≡◌, ◌≤◌, ◌⊎◌, inl, inr, ℕ, Bool, true, false, List, length, Option, Some, refl, subst}
use Rattle.std.proofs.Common.{arith}
use Rattle.tal_tree.specs.declared.site.Site.{Site}
use Rattle.schedule.specs.declared.event.Event.{Event}
use Rattle.schedule.specs.declared.event.Event.TheVariants as event
use Rattle.schedule.specs.declared.line.Line.{Line}
use Rattle.player.specs.declared.stop.ProcessorStop.{ProcessorStop}
use Rattle.world_semantics.specs.World.{is_whole}
use Rattle.message_wires_laws.specs.message_wires.specs.Play.{MachineState}
use Rattle.message_wires_laws.proofs.Whole.{begins-whole}
use Rattle.schedule_runs.specs.Ends.{IsRunOfPairs}
use Rattle.schedule_runs.specs.Rules.{pair_rules}
use Rattle.schedule_runs.specs.Runs.{Agenda, Plan, course_on, sizes_of}
use Rattle.schedule_runs.specs.declared.ran.Ran.{Ran}
use Rattle.schedule_runs.specs.schedule_loop.specs.Ends.{EndsBy, Plays, RunsToHarmBy}
use Rattle.schedule_runs.specs.schedule_loop.specs.Plans.{seen_none, seen_on}
use Rattle.schedule_runs.specs.schedule_loop.specs.Rules.{IsPlayBy, sight_of}
use Rattle.schedule_runs.specs.schedule_loop.specs.declared.ran.Ending.{Ending}
use Rattle.schedule_runs.specs.schedule_loop.specs.declared.ran.Ending.TheVariants.{Second}
use Rattle.single_stops.specs.StopsAsked.{stops_asked, stops_in}
use Rattle.single_stops.proofs.Calm.{calm-kept, would-stop}
use Rattle.single_stops.proofs.Costs.{IsPaid, to_come, upcoming-paid}
use Rattle.machine_states.specs.States.{SecondStop}

-- at most one stop is still to come, and none where the world isn't whole
record IsSingle (agenda : Agenda) (s : MachineState) : Type 0 where
  few : to_come agenda ≤ 1
  none : is_whole s.world ≡ false → to_come agenda ≡ 0

not-both : (test : Bool) → test ≡ true → test ≡ false → ⊥
not-both test is isnt = absurd (cc)

-- what is kept where it is so wasn't so where it isn't afterwards
not-before : (before after : Bool) → (before ≡ true → after ≡ true) → after ≡ false → before ≡ false
not-before true after kept isnt = absurd (not-both after (kept refl) isnt)
not-before false after kept isnt = refl

stop-or-calm : (event : Event) → (stops_in event 1 ≡ 0) ⊎ (stops_in event 1 ≡ 1)
stop-or-calm (event.Fail processor) = inr refl
stop-or-calm (event.Run place) = inl refl
stop-or-calm (event.Enter place) = inl refl
stop-or-calm (event.Deliver bus k) = inl refl
stop-or-calm (event.Lose bus k) = inl refl
stop-or-calm (event.Repeat bus k) = inl refl
stop-or-calm (event.Tick node) = inl refl
stop-or-calm (event.Reload processor) = inl refl
stop-or-calm (event.Drive turn) = inl refl

-- after an event that is paid
single-on : (agenda : Agenda) (s next : MachineState) (plan : Plan) → IsSingle agenda s
    → IsPaid (to_come agenda) (Some plan) → IsPlayBy pair_rules s plan.event next
    → IsSingle plan.agenda next
single-on agenda s next plan single paid play = by (stop-or-calm plan.event)
  where
    by : (stops_in plan.event 1 ≡ 0) ⊎ (stops_in plan.event 1 ≡ 1) → IsSingle plan.agenda next
    by (inr stop) = let few = single.few in
        record { few = omega (arith, few, paid, stop); none = λ stopped. omega (arith, few, paid, stop) }
    by (inl calm) =
        let few = single.few in
        record {
          few = omega (arith, few, paid);
          none = λ parts.
              (let none = single.none (not-before (is_whole s.world) (is_whole next.world)
              (calm-kept s plan.event next calm play) parts) in
              omega (arith, none, paid));
        }

played-single : (site : Site) (lines : List Line) (stop : Option ProcessorStop) → stops_asked lines stop ≤ 1
    → (events : List Event) (agenda : Agenda) (s : MachineState)
    → Plays pair_rules (course_on site lines stop) events agenda s → IsSingle agenda s
played-single site lines stop few _ _ _ seen_none =
    record { few = omega (arith, few); none = λ parts. absurd (not-both _ (begins-whole site) parts) }
played-single site lines stop few _ _ _
    (seen_on {events = events} {agenda = agenda} {s = s} {next = next} plan before comes play) =
    single-on agenda s next plan (played-single site lines stop few events agenda s before)
    (subst (IsPaid (to_come agenda)) comes
    (upcoming-paid (sizes_of site) (length events) (sight_of pair_rules s) agenda)) play

no-second : (site : Site) (lines : List Line) (stop : Option ProcessorStop) → stops_asked lines stop ≤ 1
    → (events : List Event) (s : MachineState) (processor : ℕ)
    → RunsToHarmBy pair_rules (course_on site lines stop) events s (SecondStop processor) → ⊥
no-second site lines stop few events s processor runs =
    let single = played-single site lines stop few events runs.agenda s runs.played in
    let would = would-stop s runs.plan.event processor runs.would in
    let none = single.none would.1 in
    let one = would.0 in
    let paid = subst (IsPaid (to_come runs.agenda)) runs.comes
    (upcoming-paid (sizes_of site) (length events) (sight_of pair_rules s) runs.agenda) in
    omega (arith, none, one, paid)

pub never-second : (site : Site) (lines : List Line) (stop : Option ProcessorStop) (ran : Ran) (processor : ℕ)
    → stops_asked lines stop ≤ 1
    → IsRunOfPairs site lines stop ran → ran.ending ≡ Second processor → ⊥
never-second site lines stop ran processor few run ended =
    let ends = subst (λ (ending : Ending). EndsBy pair_rules (course_on site lines stop) run.events run.state
    ran.machine.state ran.asked ending) ended run.ends in
    no-second site lines stop few run.events run.state processor ends.0
