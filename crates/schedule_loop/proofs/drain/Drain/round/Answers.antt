use Rattle.schedule_loop.proofs.Drained.{drained, onward, told-ends, told-onward}
use Rattle.schedule_loop.proofs.drain.Drain.round.Goals as goal

pub run-requires-clause-can : goal.run-requires-clause-can
run-requires-clause-can g c =
    drained g.M.ScheduleMachine.rules g.M.ScheduleMachine.is_ready c.args.self.now c.enter.new.self
    (g.M.ScheduleMachine.state c.args.machine.now)
    (g.M.ScheduleMachine.state c.enter.new.machine) c.requires.can
    c.in_ok-enter.ensures.drains

pub run-requires-clause-due : goal.run-requires-clause-due
run-requires-clause-due g c = rw c.if-not-branch.false at c.in_ok-enter.ensures.due

pub returns-then-not-branch-2-clause-drains : goal.returns-then-not-branch-2-clause-drains
returns-then-not-branch-2-clause-drains g c =
    onward g.M.ScheduleMachine.rules c.args.self.now c.enter.new.self c.run.new.self (g.M.ScheduleMachine.state
    c.args.machine.now)
    (g.M.ScheduleMachine.state c.enter.new.machine) (g.M.ScheduleMachine.state c.run.new.machine)
    c.in_ok-enter.ensures.drains c.in_ok-run.ensures.drains

pub deliver_x-requires-clause-can : goal.deliver_x-requires-clause-can
deliver_x-requires-clause-can g c =
    drained g.M.ScheduleMachine.rules g.M.ScheduleMachine.is_ready c.args.self.now c.run.new.self
    (g.M.ScheduleMachine.state c.args.machine.now)
    (g.M.ScheduleMachine.state c.run.new.machine) c.requires.can
    (onward g.M.ScheduleMachine.rules c.args.self.now c.enter.new.self c.run.new.self (g.M.ScheduleMachine.state
    c.args.machine.now)
    (g.M.ScheduleMachine.state c.enter.new.machine) (g.M.ScheduleMachine.state c.run.new.machine)
    c.in_ok-enter.ensures.drains
    c.in_ok-run.ensures.drains)

pub deliver_x-requires-clause-due : goal.deliver_x-requires-clause-due
deliver_x-requires-clause-due g c = rw c.if-not-branch-2.false at c.in_ok-run.ensures.due

pub returns-then-not-branch-3-clause-drains : goal.returns-then-not-branch-3-clause-drains
returns-then-not-branch-3-clause-drains g c =
    onward g.M.ScheduleMachine.rules c.args.self.now c.run.new.self c.deliver_x.new.self (g.M.ScheduleMachine.state
    c.args.machine.now)
    (g.M.ScheduleMachine.state c.run.new.machine) (g.M.ScheduleMachine.state c.deliver_x.new.machine)
    (onward g.M.ScheduleMachine.rules c.args.self.now c.enter.new.self c.run.new.self (g.M.ScheduleMachine.state
    c.args.machine.now)
    (g.M.ScheduleMachine.state c.enter.new.machine) (g.M.ScheduleMachine.state c.run.new.machine)
    c.in_ok-enter.ensures.drains
    c.in_ok-run.ensures.drains) c.in_ok-deliver_x.ensures.drains

pub deliver_y-requires-clause-can : goal.deliver_y-requires-clause-can
deliver_y-requires-clause-can g c =
    drained g.M.ScheduleMachine.rules g.M.ScheduleMachine.is_ready c.args.self.now c.deliver_x.new.self
    (g.M.ScheduleMachine.state c.args.machine.now)
    (g.M.ScheduleMachine.state c.deliver_x.new.machine) c.requires.can
    (onward g.M.ScheduleMachine.rules c.args.self.now c.run.new.self c.deliver_x.new.self (g.M.ScheduleMachine.state
    c.args.machine.now)
    (g.M.ScheduleMachine.state c.run.new.machine) (g.M.ScheduleMachine.state c.deliver_x.new.machine)
    (onward g.M.ScheduleMachine.rules c.args.self.now c.enter.new.self c.run.new.self (g.M.ScheduleMachine.state
    c.args.machine.now)
    (g.M.ScheduleMachine.state c.enter.new.machine) (g.M.ScheduleMachine.state c.run.new.machine)
    c.in_ok-enter.ensures.drains
    c.in_ok-run.ensures.drains)
    c.in_ok-deliver_x.ensures.drains)

pub deliver_y-requires-clause-due : goal.deliver_y-requires-clause-due
deliver_y-requires-clause-due g c = rw c.if-not-branch-3.false at c.in_ok-deliver_x.ensures.due

pub returns-then-not-branch-4-clause-drains : goal.returns-then-not-branch-4-clause-drains
returns-then-not-branch-4-clause-drains g c =
    onward g.M.ScheduleMachine.rules c.args.self.now c.deliver_x.new.self c.deliver_y.new.self
    (g.M.ScheduleMachine.state c.args.machine.now)
    (g.M.ScheduleMachine.state c.deliver_x.new.machine) (g.M.ScheduleMachine.state c.deliver_y.new.machine)
    (onward g.M.ScheduleMachine.rules c.args.self.now c.run.new.self c.deliver_x.new.self (g.M.ScheduleMachine.state
    c.args.machine.now)
    (g.M.ScheduleMachine.state c.run.new.machine) (g.M.ScheduleMachine.state c.deliver_x.new.machine)
    (onward g.M.ScheduleMachine.rules c.args.self.now c.enter.new.self c.run.new.self (g.M.ScheduleMachine.state
    c.args.machine.now)
    (g.M.ScheduleMachine.state c.enter.new.machine) (g.M.ScheduleMachine.state c.run.new.machine)
    c.in_ok-enter.ensures.drains
    c.in_ok-run.ensures.drains)
    c.in_ok-deliver_x.ensures.drains) c.in_ok-deliver_y.ensures.drains

pub tick-requires-clause-can : goal.tick-requires-clause-can
tick-requires-clause-can g c =
    drained g.M.ScheduleMachine.rules g.M.ScheduleMachine.is_ready c.args.self.now c.deliver_y.new.self
    (g.M.ScheduleMachine.state c.args.machine.now)
    (g.M.ScheduleMachine.state c.deliver_y.new.machine) c.requires.can
    (onward g.M.ScheduleMachine.rules c.args.self.now c.deliver_x.new.self c.deliver_y.new.self
    (g.M.ScheduleMachine.state c.args.machine.now)
    (g.M.ScheduleMachine.state c.deliver_x.new.machine) (g.M.ScheduleMachine.state c.deliver_y.new.machine)
    (onward g.M.ScheduleMachine.rules c.args.self.now c.run.new.self c.deliver_x.new.self (g.M.ScheduleMachine.state
    c.args.machine.now)
    (g.M.ScheduleMachine.state c.run.new.machine) (g.M.ScheduleMachine.state c.deliver_x.new.machine)
    (onward g.M.ScheduleMachine.rules c.args.self.now c.enter.new.self c.run.new.self (g.M.ScheduleMachine.state
    c.args.machine.now)
    (g.M.ScheduleMachine.state c.enter.new.machine) (g.M.ScheduleMachine.state c.run.new.machine)
    c.in_ok-enter.ensures.drains
    c.in_ok-run.ensures.drains)
    c.in_ok-deliver_x.ensures.drains)
    c.in_ok-deliver_y.ensures.drains)

pub tick-requires-clause-due : goal.tick-requires-clause-due
tick-requires-clause-due g c = rw c.if-not-branch-4.false at c.in_ok-deliver_y.ensures.due

pub returns-then-not-branch-5-clause-drains : goal.returns-then-not-branch-5-clause-drains
returns-then-not-branch-5-clause-drains g c =
    onward g.M.ScheduleMachine.rules c.args.self.now c.deliver_y.new.self c.tick.new.self (g.M.ScheduleMachine.state
    c.args.machine.now)
    (g.M.ScheduleMachine.state c.deliver_y.new.machine) (g.M.ScheduleMachine.state c.tick.new.machine)
    (onward g.M.ScheduleMachine.rules c.args.self.now c.deliver_x.new.self c.deliver_y.new.self
    (g.M.ScheduleMachine.state c.args.machine.now)
    (g.M.ScheduleMachine.state c.deliver_x.new.machine) (g.M.ScheduleMachine.state c.deliver_y.new.machine)
    (onward g.M.ScheduleMachine.rules c.args.self.now c.run.new.self c.deliver_x.new.self (g.M.ScheduleMachine.state
    c.args.machine.now)
    (g.M.ScheduleMachine.state c.run.new.machine) (g.M.ScheduleMachine.state c.deliver_x.new.machine)
    (onward g.M.ScheduleMachine.rules c.args.self.now c.enter.new.self c.run.new.self (g.M.ScheduleMachine.state
    c.args.machine.now)
    (g.M.ScheduleMachine.state c.enter.new.machine) (g.M.ScheduleMachine.state c.run.new.machine)
    c.in_ok-enter.ensures.drains
    c.in_ok-run.ensures.drains)
    c.in_ok-deliver_x.ensures.drains)
    c.in_ok-deliver_y.ensures.drains) c.in_ok-tick.ensures.drains

pub play-requires-clause-can : goal.play-requires-clause-can
play-requires-clause-can g c =
    drained g.M.ScheduleMachine.rules g.M.ScheduleMachine.is_ready c.args.self.now c.tick.new.self
    (g.M.ScheduleMachine.state c.args.machine.now)
    (g.M.ScheduleMachine.state c.tick.new.machine) c.requires.can
    (onward g.M.ScheduleMachine.rules c.args.self.now c.deliver_y.new.self c.tick.new.self (g.M.ScheduleMachine.state
    c.args.machine.now)
    (g.M.ScheduleMachine.state c.deliver_y.new.machine) (g.M.ScheduleMachine.state c.tick.new.machine)
    (onward g.M.ScheduleMachine.rules c.args.self.now c.deliver_x.new.self c.deliver_y.new.self
    (g.M.ScheduleMachine.state c.args.machine.now)
    (g.M.ScheduleMachine.state c.deliver_x.new.machine) (g.M.ScheduleMachine.state c.deliver_y.new.machine)
    (onward g.M.ScheduleMachine.rules c.args.self.now c.run.new.self c.deliver_x.new.self (g.M.ScheduleMachine.state
    c.args.machine.now)
    (g.M.ScheduleMachine.state c.run.new.machine) (g.M.ScheduleMachine.state c.deliver_x.new.machine)
    (onward g.M.ScheduleMachine.rules c.args.self.now c.enter.new.self c.run.new.self (g.M.ScheduleMachine.state
    c.args.machine.now)
    (g.M.ScheduleMachine.state c.enter.new.machine) (g.M.ScheduleMachine.state c.run.new.machine)
    c.in_ok-enter.ensures.drains
    c.in_ok-run.ensures.drains)
    c.in_ok-deliver_x.ensures.drains)
    c.in_ok-deliver_y.ensures.drains)
    c.in_ok-tick.ensures.drains)

pub play-requires-clause-takes : goal.play-requires-clause-takes
play-requires-clause-takes g c = rw c.if-not-branch-5.false at c.in_ok-tick.ensures.takes

pub returns-clause-drains : goal.returns-clause-drains
returns-clause-drains g c =
    told-onward g.M.ScheduleMachine.rules c.args.self.now c.tick.new.self c.play.new.self (g.M.ScheduleMachine.state
    c.args.machine.now)
    (g.M.ScheduleMachine.state c.tick.new.machine) (g.M.ScheduleMachine.state c.play.new.machine) c.play.result
    (onward g.M.ScheduleMachine.rules c.args.self.now c.deliver_y.new.self c.tick.new.self (g.M.ScheduleMachine.state
    c.args.machine.now)
    (g.M.ScheduleMachine.state c.deliver_y.new.machine) (g.M.ScheduleMachine.state c.tick.new.machine)
    (onward g.M.ScheduleMachine.rules c.args.self.now c.deliver_x.new.self c.deliver_y.new.self
    (g.M.ScheduleMachine.state c.args.machine.now)
    (g.M.ScheduleMachine.state c.deliver_x.new.machine) (g.M.ScheduleMachine.state c.deliver_y.new.machine)
    (onward g.M.ScheduleMachine.rules c.args.self.now c.run.new.self c.deliver_x.new.self (g.M.ScheduleMachine.state
    c.args.machine.now)
    (g.M.ScheduleMachine.state c.run.new.machine) (g.M.ScheduleMachine.state c.deliver_x.new.machine)
    (onward g.M.ScheduleMachine.rules c.args.self.now c.enter.new.self c.run.new.self (g.M.ScheduleMachine.state
    c.args.machine.now)
    (g.M.ScheduleMachine.state c.enter.new.machine) (g.M.ScheduleMachine.state c.run.new.machine)
    c.in_ok-enter.ensures.drains
    c.in_ok-run.ensures.drains)
    c.in_ok-deliver_x.ensures.drains)
    c.in_ok-deliver_y.ensures.drains)
    c.in_ok-tick.ensures.drains) c.play.ensures.drains

pub returns-clause-ends : goal.returns-clause-ends
returns-clause-ends g c = told-ends c.args.rest c.tick.new.self c.play.new.self c.play.result c.play.ensures.stands
