use Rattle.std.proofs.Common.{◌<◌, ℕ, Option, ap, arith, refl, subst, sym}
use Rattle.charted_runs.proofs.Charting.{begins, ends_at_harm, ends_too_long, few_drawn, goes_on, ready_drawn, run_ends}
use Rattle.traced_runs.specs.packet_runs.specs.Runs.{packet_rules}
use Rattle.schedule_loop.specs.Ends.{IsTriedBy}
use Rattle.schedule_loop.specs.declared.ran.Ending.{Ending}
use Rattle.traced_runs.specs.site_machine.specs.Seen.{MachineStanding}
use Rattle.charted_runs.proofs.running.drawn.Goals as goal

last : (n : ℕ) → n < 4294967294 → n < 4294967295
last n few = omega (arith, few)

pub loop-event-init : goal.loop-event-init
loop-event-init c = (
  begins _ c.new-schedule.result c.args.packets.machine.state c.sizes_of.result c.args.chart
      (ap (λ (m : MachineStanding). m.state) c.requires.booted) c.sizes_of.ensures c.new-schedule.ensures
      c.requires.begun,
  omega arith,
  ap (λ (m : MachineStanding). m.is_broken) c.requires.booted,
)

pub tried_and_drawn-requires : goal.tried_and_drawn-requires
tried_and_drawn-requires c =
    ready_drawn _ c.loop-event.schedule c.loop-event.packets.machine.state c.loop-event.played c.loop-event.chart
    c.requires.can c.loop-event.invariant.0

pub loop-event-preserved : goal.loop-event-preserved
loop-event-preserved c =
    let later = goes_on _ c.loop-event.schedule c.next.new.self c.loop-event.packets.machine.state
    c.tried_and_drawn.new.machine.state c.loop-event.played c.loop-event.chart c.tried_and_drawn.new.chart
    c.in-Some.event c.loop-event.invariant.0
    (sym c.in-Some.ensures.event) c.in-Some.ensures.agenda
    (subst (λ (one : Option Ending). IsTriedBy packet_rules c.loop-event.packets.machine.state c.in-Some.event
    c.tried_and_drawn.new.machine.state one) c.in-Ok-None.field-0-is c.in-Ok-None.ensures.tried)
    c.in-Ok-None.ensures.drawn (c.is_too_long.ensures.room c.if-is_too_long.false) in (
      later,
      few_drawn _ c.next.new.self c.tried_and_drawn.new.machine.state _ c.tried_and_drawn.new.chart c.requires.can
          later,
      c.in-Ok-None.ensures.whole,
    )

pub returns-then-is_too_long : goal.returns-then-is_too_long
returns-then-is_too_long c =
    ends_too_long _ c.loop-event.schedule c.next.new.self c.loop-event.packets.machine.state c.loop-event.played
    c.loop-event.chart c.in-Some.event c.loop-event.invariant.0 (sym c.in-Some.ensures.event)
    c.in-Some.ensures.agenda (c.if-is_too_long.ensures.long refl)

pub returns-in-Ok-Some : goal.returns-in-Ok-Some
returns-in-Ok-Some c =
    ends_at_harm _ c.loop-event.schedule c.next.new.self c.loop-event.packets.machine.state c.loop-event.played
    c.loop-event.chart c.in-Some.event _ c.loop-event.invariant.0 (sym c.in-Some.ensures.event)
    c.in-Some.ensures.agenda
    (subst (λ (one : Option Ending). IsTriedBy packet_rules c.loop-event.packets.machine.state c.in-Some.event
    c.tried_and_drawn.new.machine.state one) c.in-Ok-Some.field-0-is c.in-Ok-Some.ensures.tried)
    c.in-Ok-Some.ensures.whole (last c.loop-event.played c.loop-event.invariant.1) c.from.ensures
    c.in-Ok-Some.ensures.drawn (c.is_too_long.ensures.room c.if-is_too_long.false)

pub returns : goal.returns
returns c =
    run_ends _ c.loop-event.schedule c.loop-event.packets.machine.state c.loop-event.played c.loop-event.chart
    c.ended.result c.loop-event.invariant.0 (sym c.in_default.ensures.event)
    (last c.loop-event.played c.loop-event.invariant.1) c.ended.ensures.whole c.ended.ensures.end
    c.ended.ensures.same c.ended.ensures.fault
