use Rattle.std.proofs.Common.{◌≡◌, ◌+◌, ◌-◌, ◌≤◌}
use Rattle.schedule_loop.proofs.Draining.{GoesOn}
use Rattle.schedule_loop.proofs.agenda.Schedule.left_behind.Given as goal

abbrev pub invariant-loop-left : goal.invariant-loop-left
invariant-loop-left g l =
    GoesOn g.M.ScheduleMachine.rules l.self (g.M.ScheduleMachine.state l.initial.machine) l.before l.left
    (g.M.ScheduleMachine.state l.machine) (l.before + (l.packets - l.left))
    × (l.left ≤ l.packets) × (l.kept ≤ l.left)
    × (g.M.ScheduleMachine.is_broken l.machine ≡ g.M.ScheduleMachine.is_broken l.initial.machine)

abbrev pub decreases-loop-left : goal.decreases-loop-left
decreases-loop-left g l = l.left
