use Rattle.std.proofs.Common.{◌<◌, length, arith}
use Rattle.std.proofs.lemmas.Bool.Decides.{nat_tests}
use Rattle.report_judge.proofs.LineLemmas.{lines-same, one-ends, same-more, same-so-far}
use Rattle.report_judge.proofs.difference.first_difference.Goals as goal

pub loop-one_line-init : goal.loop-one_line-init
loop-one_line-init c = (same-so-far c.args.one.now c.args.other.now, omega arith)

pub loop-one_line-preserved : goal.loop-one_line-preserved
loop-one_line-preserved c = (
  same-more c.args.one.now c.args.other.now c.loop-one_line.one_rest.now c.loop-one_line.other_rest.now
      c.in-Some.one_line.now c.in-Some-next_line.other_line.now c.in-Some.one_after.now
      c.in-Some-next_line.other_after.now c.loop-one_line.number
      c.loop-one_line.invariant.0 c.in-Some.ensures c.in-Some-next_line.ensures
      (lines-same c.in-Some.one_line.now c.in-Some-next_line.other_line.now c.ne.result c.ne.ensures c.if-ne.false),
  omega (arith, c.in-Some.ensures.shorter, c.loop-one_line.invariant.1),
)

pub returns-else-is_empty : goal.returns-else-is_empty
returns-else-is_empty c =
    let there : 0 < length c.loop-one_line.other_rest.now = grind (arith, nat_tests) in
    one-ends c.args.one.now c.args.other.now c.loop-one_line.one_rest.now c.loop-one_line.other_rest.now
    c.loop-one_line.number c.loop-one_line.invariant.0 c.in_default.ensures there
