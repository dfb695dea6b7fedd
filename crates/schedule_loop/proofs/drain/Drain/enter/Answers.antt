use Rattle.std.proofs.Common.{◌<◌, ◌+◌, ap, arith, refl, subst, sym}
use Rattle.player.specs.declared.standing.Place.TheVariants as place
use Rattle.player.specs.declared.standing.Sizes.{Sizes}
use Rattle.schedule_loop.proofs.Drained.{drained, due-then, enters-one, enters-over, onward, stays}
use Rattle.schedule_loop.proofs.drain.Drain.enter.Goals as goal

pub loop-terminal-init : goal.loop-terminal-init
loop-terminal-init g c = (
  stays g.M.ScheduleMachine.rules c.args.self.now (g.M.ScheduleMachine.state c.args.machine.now),
  c.requires.due,
  c.requires.whole,
)

pub play-requires-clause-can : goal.play-requires-clause-can
play-requires-clause-can g c =
    drained g.M.ScheduleMachine.rules g.M.ScheduleMachine.is_ready c.args.self.now c.loop-terminal.self
    (g.M.ScheduleMachine.state c.args.machine.now) (g.M.ScheduleMachine.state c.loop-terminal.machine) c.requires.can
    c.loop-terminal.invariant.0

pub play-requires-clause-takes : goal.play-requires-clause-takes
play-requires-clause-takes g c =
    enters-one g.M.ScheduleMachine.rules c.args.rest c.loop-terminal.self
    (g.M.ScheduleMachine.state c.loop-terminal.machine) c.loop-terminal.terminal c.loop-terminal.invariant.1
    (subst (λ (sizes : Sizes). c.loop-terminal.terminal < sizes.terminals) (sym c.loop-terminal.invariant.0.sizes)
    c.loop-terminal-test.true)

pub loop-terminal-preserved : goal.loop-terminal-preserved
loop-terminal-preserved g c = (
  onward g.M.ScheduleMachine.rules c.args.self.now c.loop-terminal.self c.play.new.self
      (g.M.ScheduleMachine.state c.args.machine.now) (g.M.ScheduleMachine.state c.loop-terminal.machine)
      (g.M.ScheduleMachine.state c.play.new.machine) c.loop-terminal.invariant.0 c.in_ok-play.ensures.drains,
  due-then g.M.ScheduleMachine.rules c.args.rest c.loop-terminal.self c.play.new.self
      (g.M.ScheduleMachine.state c.play.new.machine) (place.Enters (c.loop-terminal.terminal + 1)) refl (rw
      c.if-not-branch.false at c.in_ok-play.ensures.stands),
  c.in_ok-play.ensures.whole,
)

pub returns-clause-due : goal.returns-clause-due
returns-clause-due g c =
    enters-over g.M.ScheduleMachine.rules c.args.rest c.loop-terminal.self
    (g.M.ScheduleMachine.state c.loop-terminal.machine) c.loop-terminal.terminal c.loop-terminal.invariant.1
    (omega (
      arith,
      c.loop-terminal-test.false,
      ap (λ (sizes : Sizes). sizes.terminals)
          c.loop-terminal.invariant.0.sizes,
    ))
