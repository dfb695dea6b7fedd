use Rattle.std.proofs.Common.{◌<◌, ◌+◌, ap, arith, refl, subst, sym}
use Rattle.player.specs.declared.standing.Place.TheVariants as place
use Rattle.player.specs.declared.standing.Sizes.{Sizes}
use Rattle.schedule_loop.proofs.Drained.{drained, due-then, ticks-one, ticks-over, onward, stays}
use Rattle.schedule_loop.proofs.drain.Drain.tick.Goals as goal

pub loop-node-init : goal.loop-node-init
loop-node-init g c = (
  stays g.M.ScheduleMachine.rules c.args.self.now (g.M.ScheduleMachine.state c.args.machine.now),
  c.requires.due,
  c.requires.whole,
)

pub play-requires-clause-can : goal.play-requires-clause-can
play-requires-clause-can g c =
    drained g.M.ScheduleMachine.rules g.M.ScheduleMachine.is_ready c.args.self.now c.loop-node.self
    (g.M.ScheduleMachine.state c.args.machine.now) (g.M.ScheduleMachine.state c.loop-node.machine) c.requires.can
    c.loop-node.invariant.0

pub play-requires-clause-takes : goal.play-requires-clause-takes
play-requires-clause-takes g c =
    ticks-one g.M.ScheduleMachine.rules c.args.rest c.loop-node.self
    (g.M.ScheduleMachine.state c.loop-node.machine) c.loop-node.node c.loop-node.invariant.1
    (subst (λ (sizes : Sizes). c.loop-node.node < sizes.processors) (sym c.loop-node.invariant.0.sizes)
    c.loop-node-test.true)

pub loop-node-preserved : goal.loop-node-preserved
loop-node-preserved g c = (
  onward g.M.ScheduleMachine.rules c.args.self.now c.loop-node.self c.play.new.self
      (g.M.ScheduleMachine.state c.args.machine.now) (g.M.ScheduleMachine.state c.loop-node.machine)
      (g.M.ScheduleMachine.state c.play.new.machine) c.loop-node.invariant.0 c.in_ok-play.ensures.drains,
  due-then g.M.ScheduleMachine.rules c.args.rest c.loop-node.self c.play.new.self
      (g.M.ScheduleMachine.state c.play.new.machine) (place.Ticks (c.loop-node.node + 1)) refl (rw c.if-not-branch.false
      at c.in_ok-play.ensures.stands),
  c.in_ok-play.ensures.whole,
)

pub returns-clause-takes : goal.returns-clause-takes
returns-clause-takes g c =
    ticks-over g.M.ScheduleMachine.rules c.args.rest c.loop-node.self (g.M.ScheduleMachine.state c.loop-node.machine)
    c.loop-node.node
    c.loop-node.invariant.1
    (omega (arith, c.loop-node-test.false, ap (λ (sizes : Sizes). sizes.processors) c.loop-node.invariant.0.sizes))
