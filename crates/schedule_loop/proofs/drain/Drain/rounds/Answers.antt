use Rattle.std.proofs.Common.{◌≡◌, ◌∙◌, ◌-◌, arith, sym}
use Rattle.player.specs.declared.standing.Place.TheVariants as place
use Rattle.schedule_loop.proofs.Drained.{drained, due-begin, onward, stays}
use Rattle.schedule_loop.proofs.drain.Drain.rounds.Goals as goal

pub loop-self-init : goal.loop-self-init
loop-self-init g c = (
  stays g.M.ScheduleMachine.rules c.args.self.now (g.M.ScheduleMachine.state c.args.machine.now),
  c.requires.before,
  c.requires.whole,
)

pub round-requires-clause-can : goal.round-requires-clause-can
round-requires-clause-can g c =
    drained g.M.ScheduleMachine.rules g.M.ScheduleMachine.is_ready c.args.self.now c.loop-self.self
    (g.M.ScheduleMachine.state c.args.machine.now)
    (g.M.ScheduleMachine.state c.loop-self.machine) c.requires.can c.loop-self.invariant.0

pub round-requires-clause-due : goal.round-requires-clause-due
round-requires-clause-due g c =
    due-begin g.M.ScheduleMachine.rules c.loop-self.self (g.M.ScheduleMachine.state c.loop-self.machine)
    c.loop-self.invariant.1
    (omega (arith, c.loop-self-test.true)) (sym c.is_idle.ensures ∙ c.if-is_idle.false)

pub loop-self-preserved : goal.loop-self-preserved
loop-self-preserved g c = (
  onward g.M.ScheduleMachine.rules c.args.self.now c.loop-self.self c.round.new.self (g.M.ScheduleMachine.state
      c.args.machine.now)
      (g.M.ScheduleMachine.state c.loop-self.machine) (g.M.ScheduleMachine.state c.round.new.machine)
      c.loop-self.invariant.0
      c.in_ok-round.ensures.drains,
  (rw c.if-not-branch.false at c.in_ok-round.ensures.ends).1,
  c.in_ok-round.ensures.whole,
)

pub loop-self-smaller : goal.loop-self-smaller
loop-self-smaller g c =
    let ends : (c.round.new.self.left ≡ c.loop-self.self.left - 1) × (c.round.new.self.place ≡ place.Before) =
    rw c.if-not-branch.false at c.in_ok-round.ensures.ends in
    omega (arith, ends.0, c.loop-self-test.true)
