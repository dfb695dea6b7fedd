use Rattle.std.proofs.Common.{Option, arith, subst}
use Rattle.schedule_loop.specs.Ends.{IsTriedBy}
use Rattle.schedule_loop.specs.declared.ran.Ending.{Ending}
use Rattle.schedule_loop.proofs.Drained.{plays-one}
use Rattle.schedule_loop.proofs.drain.Drain.play.Goals as goal

pub returns-in-None-clause-drains : goal.returns-in-None-clause-drains
returns-in-None-clause-drains g c =
    plays-one g.M.ScheduleMachine.rules c.args.rest c.args.self.now c.stand.new.self
    (g.M.ScheduleMachine.state c.args.machine.now) (g.M.ScheduleMachine.state c.tried.new.machine) c.args.event
    c.args.place c.requires.takes (omega (arith, c.if-self.false))
    (subst (λ (one : Option Ending). IsTriedBy g.M.ScheduleMachine.rules (g.M.ScheduleMachine.state c.args.machine.now)
    c.args.event (g.M.ScheduleMachine.state c.tried.new.machine) one) c.in-None.is c.in_ok-tried.ensures.tried)
    c.stand.ensures
