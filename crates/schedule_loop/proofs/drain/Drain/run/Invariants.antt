use Rattle.std.proofs.Common.{◌≡◌, false}
use Rattle.player.specs.declared.standing.Place.TheVariants as place
use Rattle.schedule_loop.specs.Drained.{Drains, IsDueAt}
use Rattle.schedule_loop.proofs.drain.Drain.run.Given as goal

abbrev pub invariant-loop-process : goal.invariant-loop-process
invariant-loop-process g l =
    Drains g.M.ScheduleMachine.rules l.initial.self l.self (g.M.ScheduleMachine.state l.initial.machine)
    (g.M.ScheduleMachine.state l.machine)
    × IsDueAt g.M.ScheduleMachine.rules l.rest l.self (g.M.ScheduleMachine.state l.machine) (place.Runs l.process)
    × (g.M.ScheduleMachine.is_broken l.machine ≡ false)
