use Rattle.std.proofs.Common.{◌≡◌, None, length}
use Rattle.schedule_loop.specs.Plans.{next_seen, planned_seen}
use Rattle.schedule_loop.specs.Rules.{sight_of}
use Rattle.schedule_loop.proofs.agenda.Schedule.planned.Given as goal

abbrev pub invariant-loop-event : goal.invariant-loop-event
invariant-loop-event g l =
    (l.self.agenda.held_back ≡ None) × (l.self.agenda.stop ≡ l.initial.self.agenda.stop)
    × (l.self.sizes ≡ l.initial.self.sizes)
    × (planned_seen l.self.sizes (sight_of g.M.ScheduleMachine.rules (g.M.ScheduleMachine.state l.machine))
    l.self.agenda.stop l.self.agenda.lines
    (next_seen l.self.sizes (sight_of g.M.ScheduleMachine.rules (g.M.ScheduleMachine.state l.machine))
    l.self.agenda.standing)
    ≡ planned_seen l.initial.self.sizes (sight_of g.M.ScheduleMachine.rules (g.M.ScheduleMachine.state l.machine))
    l.initial.self.agenda.stop l.initial.self.agenda.lines
    (next_seen l.initial.self.sizes (sight_of g.M.ScheduleMachine.rules (g.M.ScheduleMachine.state l.machine))
    l.initial.self.agenda.standing))

abbrev pub decreases-loop-event : goal.decreases-loop-event
decreases-loop-event g l = length l.self.agenda.lines
