use Rattle.std.proofs.Common.{◌≤◌, ◌∙◌, subst}
use Rattle.discipline.proofs.Tried.{before-item, before-files}
use Rattle.discipline.proofs.checker.try_items.Goals as goal

pub loop-item-preserved : goal.loop-item-preserved
loop-item-preserved c = (
  before-item c.args.program.now c.loop-item.item c.loop-item.invariant.0 c.in_ok-try_reason.ensures.tried,
  c.in_ok-try_reason.ensures.clear,
  c.try_reason.ensures.room ∙ c.loop-item.invariant.2,
)

pub returns-clause-tried : goal.returns-clause-tried
returns-clause-tried c =
    before-files c.args.program.now c.loop-item.item c.requires.regular
    (subst (λ n. n ≤ c.loop-item.item) c.len-item-end.ensures c.loop-item-test.false) c.loop-item.invariant.0
