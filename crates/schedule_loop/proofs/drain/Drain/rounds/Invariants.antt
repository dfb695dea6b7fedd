use Rattle.std.proofs.Common.{◌≡◌, false}
use Rattle.player.specs.declared.standing.Place.TheVariants as place
use Rattle.schedule_loop.specs.Drained.{Drains}
use Rattle.schedule_loop.proofs.drain.Drain.rounds.Given as goal

abbrev pub invariant-loop-self : goal.invariant-loop-self
invariant-loop-self g l =
    Drains g.M.ScheduleMachine.rules l.initial.self l.self (g.M.ScheduleMachine.state l.initial.machine)
    (g.M.ScheduleMachine.state l.machine)
    × (l.self.place ≡ place.Before) × (g.M.ScheduleMachine.is_broken l.machine ≡ false)

abbrev pub decreases-loop-self : goal.decreases-loop-self
decreases-loop-self g l = l.self.left
