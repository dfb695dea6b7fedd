use Rattle.std.proofs.Common.{◌<◌, ◌+◌, ap, arith, refl, subst, sym}
use Rattle.player.specs.declared.standing.Place.TheVariants as place
use Rattle.player.specs.declared.standing.Sizes.{Sizes}
use Rattle.schedule_loop.proofs.Drained.{drained, due-then, runs-one, runs-over, onward, stays}
use Rattle.schedule_loop.proofs.drain.Drain.run.Goals as goal

pub loop-process-init : goal.loop-process-init
loop-process-init g c = (
  stays g.M.ScheduleMachine.rules c.args.self.now (g.M.ScheduleMachine.state c.args.machine.now),
  c.requires.due,
  c.requires.whole,
)

pub play-requires-clause-can : goal.play-requires-clause-can
play-requires-clause-can g c =
    drained g.M.ScheduleMachine.rules g.M.ScheduleMachine.is_ready c.args.self.now c.loop-process.self
    (g.M.ScheduleMachine.state c.args.machine.now) (g.M.ScheduleMachine.state c.loop-process.machine) c.requires.can
    c.loop-process.invariant.0

pub play-requires-clause-takes : goal.play-requires-clause-takes
play-requires-clause-takes g c =
    runs-one g.M.ScheduleMachine.rules c.args.rest c.loop-process.self
    (g.M.ScheduleMachine.state c.loop-process.machine) c.loop-process.process c.loop-process.invariant.1
    (subst (λ (sizes : Sizes). c.loop-process.process < sizes.processes) (sym c.loop-process.invariant.0.sizes)
    c.loop-process-test.true)

pub loop-process-preserved : goal.loop-process-preserved
loop-process-preserved g c = (
  onward g.M.ScheduleMachine.rules c.args.self.now c.loop-process.self c.play.new.self
      (g.M.ScheduleMachine.state c.args.machine.now) (g.M.ScheduleMachine.state c.loop-process.machine)
      (g.M.ScheduleMachine.state c.play.new.machine) c.loop-process.invariant.0 c.in_ok-play.ensures.drains,
  due-then g.M.ScheduleMachine.rules c.args.rest c.loop-process.self c.play.new.self
      (g.M.ScheduleMachine.state c.play.new.machine) (place.Runs (c.loop-process.process + 1)) refl (rw
      c.if-not-branch.false at c.in_ok-play.ensures.stands),
  c.in_ok-play.ensures.whole,
)

pub returns-clause-due : goal.returns-clause-due
returns-clause-due g c =
    runs-over g.M.ScheduleMachine.rules c.args.rest c.loop-process.self
    (g.M.ScheduleMachine.state c.loop-process.machine) c.loop-process.process c.loop-process.invariant.1
    (omega (arith, c.loop-process-test.false, ap (λ (sizes : Sizes). sizes.processes) c.loop-process.invariant.0.sizes))
