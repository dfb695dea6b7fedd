use Rattle.std.proofs.Common.{refl}
use Rattle.std.specs.Int.{int_wrap}
use Rattle.tal_tree.specs.declared.expression.Expr.TheBlock.{shape-the_row-Spot-0, hidden-the_row-Spot-0}
use Rattle.tal_tree.specs.declared.expression.Expr.TheBlock.{shape-the_row-Expr-1, hidden-the_row-Expr-1}
use Rattle.tal_tree.specs.declared.expression.Cond.TheBlock.{shape-the_row-Cond-0, hidden-the_row-Cond-0}
use denote.Hole.Carrier.{hidden}
use Rattle.value_traps.proofs.guards.an_index_is_told_with_its_bounds.Goals as goal

pub returns-clause-above : goal.returns-clause-above
unfolding int_wrap shape-the_row-Spot-0 hidden-the_row-Spot-0 shape-the_row-Expr-1 hidden-the_row-Expr-1
    shape-the_row-Cond-0 hidden-the_row-Cond-0 hidden
returns-clause-above c = refl

pub returns-clause-below : goal.returns-clause-below
unfolding int_wrap shape-the_row-Spot-0 hidden-the_row-Spot-0 shape-the_row-Expr-1 hidden-the_row-Expr-1
    shape-the_row-Cond-0 hidden-the_row-Cond-0 hidden
returns-clause-below c = refl

pub returns-clause-highest : goal.returns-clause-highest
unfolding int_wrap shape-the_row-Spot-0 hidden-the_row-Spot-0 shape-the_row-Expr-1 hidden-the_row-Expr-1
    shape-the_row-Cond-0 hidden-the_row-Cond-0 hidden
returns-clause-highest c = refl

pub returns-clause-set : goal.returns-clause-set
unfolding int_wrap shape-the_row-Spot-0 hidden-the_row-Spot-0 shape-the_row-Expr-1 hidden-the_row-Expr-1
    shape-the_row-Cond-0 hidden-the_row-Cond-0 hidden
returns-clause-set c = refl
