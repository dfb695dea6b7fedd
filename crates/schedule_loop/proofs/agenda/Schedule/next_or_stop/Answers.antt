use Rattle.std.proofs.Common.{sym}
use Rattle.schedule_loop.specs.Plans.{next_seen, planned_seen}
use Rattle.schedule_loop.specs.Rules.{sight_of}
use Rattle.agendas.specs.Agendas.{coming}
use Rattle.schedule_loop.proofs.Planning.{stays-event, stays-agenda, stops-event, stops-agenda}
use Rattle.schedule_loop.proofs.agenda.Schedule.next_or_stop.Goals as goal

pub returns-in-None-clause-event : goal.returns-in-None-clause-event
returns-in-None-clause-event g c =
    stays-event
    (planned_seen c.args.self.now.sizes (sight_of g.M.ScheduleMachine.rules (g.M.ScheduleMachine.state
    c.args.machine.now)) c.args.self.now.agenda.stop
    c.args.self.now.agenda.lines
    (next_seen c.args.self.now.sizes (sight_of g.M.ScheduleMachine.rules (g.M.ScheduleMachine.state c.args.machine.now))
    c.args.self.now.agenda.standing))
    (coming c.args.self.now.agenda.stop c.args.before) c.in_ok-event.event (sym c.in_ok-event.ensures.event)
    (sym c.in-None.ensures)

pub returns-in-None-clause-agenda : goal.returns-in-None-clause-agenda
returns-in-None-clause-agenda g c =
    stays-agenda
    (planned_seen c.args.self.now.sizes (sight_of g.M.ScheduleMachine.rules (g.M.ScheduleMachine.state
    c.args.machine.now)) c.args.self.now.agenda.stop
    c.args.self.now.agenda.lines
    (next_seen c.args.self.now.sizes (sight_of g.M.ScheduleMachine.rules (g.M.ScheduleMachine.state c.args.machine.now))
    c.args.self.now.agenda.standing))
    (coming c.args.self.now.agenda.stop c.args.before) c.in_ok-event.event c.args.self.now.sizes c.planned.new.self
    (sym c.in_ok-event.ensures.event)
    (sym c.in-None.ensures) c.in_ok-event.ensures.agenda

pub returns-in-Some-clause-event : goal.returns-in-Some-clause-event
returns-in-Some-clause-event g c =
    stops-event
    (planned_seen c.args.self.now.sizes (sight_of g.M.ScheduleMachine.rules (g.M.ScheduleMachine.state
    c.args.machine.now)) c.args.self.now.agenda.stop
    c.args.self.now.agenda.lines
    (next_seen c.args.self.now.sizes (sight_of g.M.ScheduleMachine.rules (g.M.ScheduleMachine.state c.args.machine.now))
    c.args.self.now.agenda.standing))
    (coming c.args.self.now.agenda.stop c.args.before) c.in_ok-event.event c.in-Some.processor
    (sym c.in_ok-event.ensures.event) (sym c.in-Some.ensures)

pub returns-in-Some-clause-agenda : goal.returns-in-Some-clause-agenda
returns-in-Some-clause-agenda g c =
    stops-agenda
    (planned_seen c.args.self.now.sizes (sight_of g.M.ScheduleMachine.rules (g.M.ScheduleMachine.state
    c.args.machine.now)) c.args.self.now.agenda.stop
    c.args.self.now.agenda.lines
    (next_seen c.args.self.now.sizes (sight_of g.M.ScheduleMachine.rules (g.M.ScheduleMachine.state c.args.machine.now))
    c.args.self.now.agenda.standing))
    (coming c.args.self.now.agenda.stop c.args.before) c.in_ok-event.event c.in-Some.processor c.args.self.now.sizes
    c.planned.new.self c.hold_back.new.self
    (sym c.in_ok-event.ensures.event) (sym c.in-Some.ensures) c.in_ok-event.ensures.agenda c.hold_back.ensures
