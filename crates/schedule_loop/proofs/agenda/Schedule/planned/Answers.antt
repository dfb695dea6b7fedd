use Rattle.std.proofs.Common.{◌≡◌, ◌∙◌, Some, None, Option, refl, subst, sym, ap}
use Rattle.std.specs.Option.{IfSome}
use Rattle.schedule_loop.specs.Plans.{next_seen}
use Rattle.schedule_loop.specs.Rules.{sight_of}
use Rattle.agendas.specs.Agendas.{Plan}
use Rattle.schedule_loop.specs.Seen.{event_in}
use Rattle.schedule_loop.proofs.Planning.{gives-event, gives-agenda, goes_along, is_over}
use Rattle.schedule_loop.proofs.agenda.Schedule.planned.Goals as goal

pub returns-in-Some-clause-event : goal.returns-in-Some-clause-event
returns-in-Some-clause-event g c =
    subst (λ (p : Option Plan). Some c.in-Some.event ≡ event_in p) c.loop-event.invariant.3
    (gives-event c.loop-event.self.sizes (sight_of g.M.ScheduleMachine.rules (g.M.ScheduleMachine.state
    c.args.machine.now)) c.loop-event.self.agenda.stop
    c.loop-event.self.agenda.lines
    (next_seen c.loop-event.self.sizes (sight_of g.M.ScheduleMachine.rules (g.M.ScheduleMachine.state
    c.args.machine.now)) c.loop-event.self.agenda.standing)
    c.in-Some.event (sym c.in-Some.ensures.event))

pub returns-in-Some-clause-agenda : goal.returns-in-Some-clause-agenda
returns-in-Some-clause-agenda g c =
    subst (λ (p : Option Plan). IfSome p (λ plan. c.next_of_line.new.self
    ≡ record { sizes = c.args.self.now.sizes; agenda = plan.agenda }))
    c.loop-event.invariant.3
    (gives-agenda c.loop-event.self c.next_of_line.new.self c.args.self.now.sizes (sight_of g.M.ScheduleMachine.rules
    (g.M.ScheduleMachine.state c.args.machine.now))
    (next_seen c.loop-event.self.sizes (sight_of g.M.ScheduleMachine.rules (g.M.ScheduleMachine.state
    c.args.machine.now)) c.loop-event.self.agenda.standing)
    c.in-Some.event
    c.loop-event.invariant.0 c.loop-event.invariant.2 (sym c.in-Some.ensures.event) c.in-Some.ensures.agenda)

pub returns-then-not-begin_line-clause-event : goal.returns-then-not-begin_line-clause-event
returns-then-not-begin_line-clause-event g c =
    subst (λ (p : Option Plan). None ≡ event_in p) c.loop-event.invariant.3
    (sym (ap event_in (is_over (sight_of g.M.ScheduleMachine.rules (g.M.ScheduleMachine.state c.args.machine.now))
    c.loop-event.self c.next_of_line.new.self
    c.begin_line.new.self
    c.next_of_line.new.self.agenda.lines refl (sym c.in_default.ensures.event) c.in_default.ensures.agenda
    c.if-not-begin_line.ensures)))

pub returns-then-not-begin_line-clause-agenda : goal.returns-then-not-begin_line-clause-agenda
returns-then-not-begin_line-clause-agenda g c =
    subst (λ (p : Option Plan). IfSome p (λ plan. c.begin_line.new.self
    ≡ record { sizes = c.args.self.now.sizes; agenda = plan.agenda }))
    (sym (is_over (sight_of g.M.ScheduleMachine.rules (g.M.ScheduleMachine.state c.args.machine.now)) c.loop-event.self
    c.next_of_line.new.self c.begin_line.new.self
    c.next_of_line.new.self.agenda.lines refl (sym c.in_default.ensures.event) c.in_default.ensures.agenda
    c.if-not-begin_line.ensures)
    ∙ c.loop-event.invariant.3)
    tt

pub loop-event-preserved : goal.loop-event-preserved
loop-event-preserved g c =
    goes_along (sight_of g.M.ScheduleMachine.rules (g.M.ScheduleMachine.state c.args.machine.now)) c.args.self.now
    c.loop-event.self c.next_of_line.new.self c.begin_line.new.self c.next_of_line.new.self.agenda.lines refl
    (sym c.in_default.ensures.event) c.in_default.ensures.agenda c.if-not-begin_line.ensures c.loop-event.invariant
