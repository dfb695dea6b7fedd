use Rattle.std.proofs.Common.{refl}
use Rattle.std.specs.Int.{int_wrap}
use Rattle.tal_tree.specs.declared.expression.Expr.TheBlock.{shape-the_row-Spot-0, hidden-the_row-Spot-0}
use Rattle.tal_tree.specs.declared.expression.Expr.TheBlock.{shape-the_row-Expr-1, hidden-the_row-Expr-1}
use denote.Hole.Carrier.{hidden}
use Rattle.left_guards.proofs.ends.a_bad_count_is_told_with_its_bounds.Goals as goal

pub returns-clause-sent_first : goal.returns-clause-sent_first
unfolding int_wrap shape-the_row-Spot-0 hidden-the_row-Spot-0 shape-the_row-Expr-1 hidden-the_row-Expr-1 hidden
returns-clause-sent_first c = refl

pub returns-clause-got : goal.returns-clause-got
unfolding int_wrap shape-the_row-Spot-0 hidden-the_row-Spot-0 shape-the_row-Expr-1 hidden-the_row-Expr-1 hidden
returns-clause-got c = refl
