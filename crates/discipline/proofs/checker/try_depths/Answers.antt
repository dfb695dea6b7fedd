use Rattle.std.proofs.Common.{◌≤◌, ◌∙◌, subst}
use Rattle.discipline.proofs.Tried.{before-depth, all-tried}
use Rattle.discipline.proofs.checker.try_depths.Goals as goal

pub loop-file-preserved : goal.loop-file-preserved
loop-file-preserved c = (
  before-depth c.args.program.now c.loop-file.file c.loop-file.invariant.0 c.in_ok-try_reason.ensures.tried,
  c.in_ok-try_reason.ensures.clear,
  c.try_reason.ensures.room ∙ c.loop-file.invariant.2,
)

pub returns : goal.returns
returns c =
    all-tried c.args.program.now c.loop-file.file c.requires.bounds
    (subst (λ n. n ≤ c.loop-file.file) c.len-file-end.ensures c.loop-file-test.false) c.loop-file.invariant.0
