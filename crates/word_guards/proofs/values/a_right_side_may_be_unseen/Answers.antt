use Rattle.std.proofs.Common.{refl}
use Rattle.std.specs.Int.{int_wrap}
use Rattle.tal_tree.specs.declared.expression.Expr.TheBlock.{shape-the_row-Spot-0, hidden-the_row-Spot-0}
use Rattle.tal_tree.specs.declared.expression.Expr.TheBlock.{shape-the_row-Expr-1, hidden-the_row-Expr-1}
use Rattle.tal_tree.specs.declared.expression.Cond.TheBlock.{shape-the_row-Cond-0, hidden-the_row-Cond-0}
use denote.Hole.Carrier.{hidden}
use Rattle.word_guards.proofs.values.a_right_side_may_be_unseen.Goals as goal

pub returns-clause-and : goal.returns-clause-and
unfolding int_wrap shape-the_row-Spot-0 hidden-the_row-Spot-0 shape-the_row-Expr-1 hidden-the_row-Expr-1
    shape-the_row-Cond-0 hidden-the_row-Cond-0 hidden
returns-clause-and c = refl

pub returns-clause-or : goal.returns-clause-or
unfolding int_wrap shape-the_row-Spot-0 hidden-the_row-Spot-0 shape-the_row-Expr-1 hidden-the_row-Expr-1
    shape-the_row-Cond-0 hidden-the_row-Cond-0 hidden
returns-clause-or c = refl

pub returns-clause-and_seen : goal.returns-clause-and_seen
unfolding int_wrap shape-the_row-Spot-0 hidden-the_row-Spot-0 shape-the_row-Expr-1 hidden-the_row-Expr-1
    shape-the_row-Cond-0 hidden-the_row-Cond-0 hidden
returns-clause-and_seen c = refl

pub returns-clause-or_seen : goal.returns-clause-or_seen
unfolding int_wrap shape-the_row-Spot-0 hidden-the_row-Spot-0 shape-the_row-Expr-1 hidden-the_row-Expr-1
    shape-the_row-Cond-0 hidden-the_row-Cond-0 hidden
returns-clause-or_seen c = refl
