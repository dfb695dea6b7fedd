use Rattle.std.proofs.Common.{◌≡◌, ◌+◌, ◌-◌, ℕ, arith, subst}
use Rattle.player.specs.declared.standing.Place.TheVariants as place
use Rattle.schedule_loop.specs.Drained.{IsDueAt}
use Rattle.schedule_loop.proofs.Drained.{drained, onward, stays}
use Rattle.schedule_loop.proofs.drain.Drain.deliver.Goals as goal

pub loop-left-init : goal.loop-left-init
loop-left-init g c = (
  stays g.M.ScheduleMachine.rules c.args.self.now (g.M.ScheduleMachine.state c.args.machine.now),
  c.requires.due,
  c.requires.whole,
)

pub deliver_one-requires-clause-can : goal.deliver_one-requires-clause-can
deliver_one-requires-clause-can g c =
    drained g.M.ScheduleMachine.rules g.M.ScheduleMachine.is_ready c.args.self.now c.loop-left.self
    (g.M.ScheduleMachine.state c.args.machine.now)
    (g.M.ScheduleMachine.state c.loop-left.machine) c.requires.can c.loop-left.invariant.0

pub deliver_one-requires-clause-due : goal.deliver_one-requires-clause-due
deliver_one-requires-clause-due g c =
    let more : c.loop-left.left ≡ c.loop-left.left - 1 + 1 = omega (arith, c.loop-left-test.true) in
    subst (λ (n : ℕ). IsDueAt g.M.ScheduleMachine.rules c.args.rest c.loop-left.self (g.M.ScheduleMachine.state
    c.loop-left.machine)
    (place.Delivers c.args.bus n)) more c.loop-left.invariant.1

pub loop-left-preserved : goal.loop-left-preserved
loop-left-preserved g c = (
  onward g.M.ScheduleMachine.rules c.args.self.now c.loop-left.self c.deliver_one.new.self (g.M.ScheduleMachine.state
      c.args.machine.now)
      (g.M.ScheduleMachine.state c.loop-left.machine) (g.M.ScheduleMachine.state c.deliver_one.new.machine)
      c.loop-left.invariant.0
      c.in_ok-deliver_one.ensures.drains,
  (rw c.if-not-branch.false at c.in_ok-deliver_one.ensures.due),
  c.in_ok-deliver_one.ensures.whole,
)

pub returns-clause-due : goal.returns-clause-due
returns-clause-due g c =
    let none : c.loop-left.left ≡ 0 = omega (arith, c.loop-left-test.false) in
    subst (λ (n : ℕ). IsDueAt g.M.ScheduleMachine.rules c.args.rest c.loop-left.self (g.M.ScheduleMachine.state
    c.loop-left.machine)
    (place.Delivers c.args.bus n)) none c.loop-left.invariant.1
