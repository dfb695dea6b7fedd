use Rattle.std.proofs.Common.{◌≡◌, false}
use Rattle.player.specs.declared.standing.Place.TheVariants as place
use Rattle.schedule_loop.specs.Drained.{Drains, IsDueAt}
use Rattle.schedule_loop.proofs.drain.Drain.deliver.Given as goal

abbrev pub invariant-loop-left : goal.invariant-loop-left
invariant-loop-left g l =
    Drains g.M.ScheduleMachine.rules l.initial.self l.self (g.M.ScheduleMachine.state l.initial.machine)
    (g.M.ScheduleMachine.state l.machine)
    × IsDueAt g.M.ScheduleMachine.rules l.rest l.self (g.M.ScheduleMachine.state l.machine)
    (place.Delivers l.bus l.left)
    × (g.M.ScheduleMachine.is_broken l.machine ≡ false)

abbrev pub decreases-loop-left : goal.decreases-loop-left
decreases-loop-left g l = l.left
