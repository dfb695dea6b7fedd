use Rattle.std.proofs.Common.{◌<◌, ℕ, IfOk, Option, Result, Ok, Err, arith, subst, sym}
use Rattle.schedule_loop.specs.Ends.{Course, IsTriedBy}
use Rattle.schedule_loop.specs.declared.ran.Ending.{Ending}
use Rattle.schedule_loop.proofs.Playing.{begins, few_played, goes_on, runs_out, runs_to_harm}
use Rattle.schedule_loop.proofs.running.run.Goals as goal

last : (n : ℕ) → n < 4294967294 → n < 4294967295
last n few = omega (arith, few)

both : {A E : Type 0} (answer : Result A E) (P Q R : A → Type 0) → ((a : A) → P a → Q a → R a) → IfOk answer P
    → IfOk answer Q → IfOk answer R
both (Ok a) P Q R follows p q = follows a p q
both (Err e) P Q R follows p q = tt

pub loop-event-init : goal.loop-event-init
loop-event-init g c = (begins _ _ c.new-schedule.result c.new-schedule.ensures, omega arith, c.requires.whole)

pub drain_on-requires-clause-can : goal.drain_on-requires-clause-can
drain_on-requires-clause-can g c =
    let course : Course g.M.ScheduleMachine.Wires = record {
      sizes = c.args.sizes;
      start = g.M.ScheduleMachine.state c.args.machine;
      lines = c.args.lines.now;
      stop = c.args.stop;
    } in
    let on = goes_on g.M.ScheduleMachine.rules course c.loop-event.schedule c.next.new.self
    (g.M.ScheduleMachine.state c.loop-event.machine) (g.M.ScheduleMachine.state c.tried.new.machine)
    c.loop-event.played c.in-Some.event c.loop-event.invariant.0 (sym c.in-Some.ensures.event)
    c.in-Some.ensures.agenda
    (subst (λ (one : Option Ending). IsTriedBy g.M.ScheduleMachine.rules
    (g.M.ScheduleMachine.state c.loop-event.machine) c.in-Some.event
    (g.M.ScheduleMachine.state c.tried.new.machine) one) c.in-None.is c.in_ok-tried.ensures.tried) in
    record {
      course = course;
      can = c.requires.can;
      playing = c.deliver_at_once-delivered.ensures.plays course on;
    }

pub loop-event-preserved : goal.loop-event-preserved
loop-event-preserved g c =
    let course : Course g.M.ScheduleMachine.Wires = record {
      sizes = c.args.sizes;
      start = g.M.ScheduleMachine.state c.args.machine;
      lines = c.args.lines.now;
      stop = c.args.stop;
    } in
    let on = goes_on g.M.ScheduleMachine.rules course c.loop-event.schedule c.next.new.self
    (g.M.ScheduleMachine.state c.loop-event.machine) (g.M.ScheduleMachine.state c.tried.new.machine)
    c.loop-event.played c.in-Some.event c.loop-event.invariant.0 (sym c.in-Some.ensures.event)
    c.in-Some.ensures.agenda
    (subst (λ (one : Option Ending). IsTriedBy g.M.ScheduleMachine.rules
    (g.M.ScheduleMachine.state c.loop-event.machine) c.in-Some.event
    (g.M.ScheduleMachine.state c.tried.new.machine) one) c.in-None.is c.in_ok-tried.ensures.tried) in
    let later = c.in_ok-played-in-None.ensures.plays course (c.deliver_at_once-delivered.ensures.plays course on) in (
      later,
      few_played g.M.ScheduleMachine.rules g.M.ScheduleMachine.is_ready course c.drain_on.new.self
          (g.M.ScheduleMachine.state c.drain_on.new.machine) _ c.requires.can later,
      c.in_ok-played-in-None.ensures.whole,
    )

pub returns-in-Some-2 : goal.returns-in-Some-2
returns-in-Some-2 g c =
    runs_to_harm g.M.ScheduleMachine.rules _ c.loop-event.schedule c.next.new.self
    (g.M.ScheduleMachine.state c.loop-event.machine) (g.M.ScheduleMachine.state c.tried.new.machine)
    c.loop-event.played c.from.result c.in-Some.event c.in-Some-2.ending _ c.loop-event.invariant.0
    (sym c.in-Some.ensures.event) c.in-Some.ensures.agenda
    (subst (λ (one : Option Ending). IsTriedBy g.M.ScheduleMachine.rules
    (g.M.ScheduleMachine.state c.loop-event.machine) c.in-Some.event
    (g.M.ScheduleMachine.state c.tried.new.machine) one) c.in-Some-2.is c.in_ok-tried.ensures.tried)
    c.in_ok-tried.ensures.whole (last c.loop-event.played c.loop-event.invariant.1) c.from.ensures

pub returns : goal.returns
returns g c =
    both c.ended.result _ _ _
    (λ ran end whole. runs_out g.M.ScheduleMachine.rules _ c.loop-event.schedule
    (g.M.ScheduleMachine.state c.loop-event.machine) (g.M.ScheduleMachine.state ran.machine) c.loop-event.played
    ran.asked ran.ending (g.M.ScheduleMachine.is_broken ran.machine) c.loop-event.invariant.0
    (sym c.in_default.ensures.event) (last c.loop-event.played c.loop-event.invariant.1) whole end)
    c.ended.ensures.end c.ended.ensures.whole
