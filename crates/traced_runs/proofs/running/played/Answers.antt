use Rattle.std.proofs.Common.{◌<◌, ℕ, Option, ap, arith, subst, sym}
use Rattle.packet_runs.specs.Runs.{packet_rules}
use Rattle.schedule_loop.specs.Ends.{IsTriedBy}
use Rattle.schedule_loop.specs.declared.ran.Ending.{Ending}
use Rattle.packet_runs.specs.site_machine.specs.Seen.{MachineStanding}
use Rattle.traced_runs.proofs.Ends.{ends_at_fault, ends_at_harm, run_ends}
use Rattle.traced_runs.proofs.Tracing.{begins, few_told, goes_on, ready_told}
use Rattle.traced_runs.proofs.running.played.Goals as goal

last : (n : ℕ) → n < 4294967294 → n < 4294967295
last n few = omega (arith, few)

pub loop-event-init : goal.loop-event-init
loop-event-init g c = (
  begins g.K.Sink.held g.K.Sink.faults g.K.Sink.sure c.args.sink.now _ c.new-schedule.result
      c.args.packets.machine.state c.sizes_of.result (ap (λ (m : MachineStanding). m.state) c.requires.booted)
      c.sizes_of.ensures c.new-schedule.ensures,
  omega arith,
  ap (λ (m : MachineStanding). m.is_broken) c.requires.booted,
)

pub tried_and_told-requires : goal.tried_and_told-requires
tried_and_told-requires g c =
    ready_told g.K.Sink.held g.K.Sink.faults g.K.Sink.sure c.args.sink.now c.loop-event.sink _ c.loop-event.schedule
    c.loop-event.packets.machine.state c.loop-event.played c.requires.can c.loop-event.invariant.0

pub loop-event-preserved : goal.loop-event-preserved
loop-event-preserved g c =
    let later = goes_on g.K.Sink.held g.K.Sink.faults g.K.Sink.sure c.args.sink.now c.loop-event.sink
    c.tried_and_told.new.sink _ c.loop-event.schedule c.next.new.self c.loop-event.packets.machine.state
    c.tried_and_told.new.machine.state c.loop-event.played c.in-Some.event c.loop-event.invariant.0
    (sym c.in-Some.ensures.event) c.in-Some.ensures.agenda
    (subst (λ (one : Option Ending). IsTriedBy packet_rules c.loop-event.packets.machine.state c.in-Some.event
    c.tried_and_told.new.machine.state one) c.in-Ok-None.field-0-is c.in-Ok-None.ensures.tried)
    c.in-Ok-None.ensures.told in (
      later,
      few_told g.K.Sink.held g.K.Sink.faults g.K.Sink.sure c.args.sink.now c.tried_and_told.new.sink _ c.next.new.self
          c.tried_and_told.new.machine.state _ c.requires.can later,
      c.in-Ok-None.ensures.whole,
    )

pub returns-in-Err : goal.returns-in-Err
returns-in-Err g c =
    ends_at_fault g.K.Sink.held g.K.Sink.faults g.K.Sink.sure c.args.sink.now c.loop-event.sink
    c.tried_and_told.new.sink _ c.loop-event.schedule c.next.new.self c.loop-event.packets.machine.state
    c.loop-event.played c.in-Some.event c.in-Err.fault c.loop-event.invariant.0 (sym c.in-Some.ensures.event)
    c.in-Some.ensures.agenda c.in-Err.ensures.told

pub returns-in-Ok-Some : goal.returns-in-Ok-Some
returns-in-Ok-Some g c =
    ends_at_harm g.K.Sink.held g.K.Sink.faults g.K.Sink.sure c.args.sink.now c.loop-event.sink
    c.tried_and_told.new.sink _ c.loop-event.schedule c.next.new.self c.loop-event.packets.machine.state
    c.loop-event.played c.in-Some.event _ c.loop-event.invariant.0 (sym c.in-Some.ensures.event)
    c.in-Some.ensures.agenda
    (subst (λ (one : Option Ending). IsTriedBy packet_rules c.loop-event.packets.machine.state c.in-Some.event
    c.tried_and_told.new.machine.state one) c.in-Ok-Some.field-0-is c.in-Ok-Some.ensures.tried)
    c.in-Ok-Some.ensures.whole (last c.loop-event.played c.loop-event.invariant.1) c.from.ensures
    c.in-Ok-Some.ensures.told

pub returns : goal.returns
returns g c =
    run_ends g.K.Sink.held g.K.Sink.faults g.K.Sink.sure c.args.sink.now c.loop-event.sink _ c.loop-event.schedule
    c.loop-event.packets.machine.state c.loop-event.played c.ended.result c.loop-event.invariant.0
    (sym c.in_default.ensures.event) (last c.loop-event.played c.loop-event.invariant.1) c.ended.ensures.whole
    c.ended.ensures.end c.ended.ensures.fault
