use Rattle.std.proofs.Common.{arith}
use Rattle.report_judge.proofs.ReplayLemmas.{line-impossible, next-made}
use Rattle.report_judge.proofs.replay.replayed.Goals as goal

pub returns-then-not-branch-clause-err : goal.returns-then-not-branch-clause-err
returns-then-not-branch-clause-err c =
    line-impossible c.args.site.now c.args.told.now c.loop-at.at _ c.loop-at.replay c.goes_on.new.self
    c.in_ok-goes_on.field-0 c.loop-at-test.true c.loop-at.invariant.0 c.in_ok-goes_on.ensures.goes c.if-not-branch.true

pub loop-at-preserved : goal.loop-at-preserved
loop-at-preserved c = (
  next-made c.args.site.now c.args.told.now c.loop-at.at _ c.loop-at.replay c.goes_on.new.self
      c.in_ok-goes_on.field-0 c.loop-at-test.true c.loop-at.invariant.0 c.in_ok-goes_on.ensures.goes
      c.if-not-branch.false,
  omega (arith, c.loop-at.invariant.1, c.in_ok-goes_on.ensures.writes),
)
