use Rattle.std.proofs.Common.{refl}
use Rattle.tal_tree.specs.declared.expression.Expr.TheBlock.{shape-the_row-Spot-0, hidden-the_row-Spot-0}
use Rattle.tal_tree.specs.declared.expression.Expr.TheBlock.{shape-the_row-Expr-1, hidden-the_row-Expr-1}
use Rattle.tal_tree.specs.declared.expression.Cond.TheBlock.{shape-the_row-Cond-0, hidden-the_row-Cond-0}
use denote.Hole.Carrier.{hidden}
use Rattle.code_room.proofs.guards.what_has_one_side_leaves_those_that_wait.Goals as goal

pub returns-clause-minus : goal.returns-clause-minus
unfolding shape-the_row-Spot-0 hidden-the_row-Spot-0 shape-the_row-Expr-1 hidden-the_row-Expr-1 shape-the_row-Cond-0
    hidden-the_row-Cond-0 hidden
returns-clause-minus c = refl

pub returns-clause-index : goal.returns-clause-index
unfolding shape-the_row-Spot-0 hidden-the_row-Spot-0 shape-the_row-Expr-1 hidden-the_row-Expr-1 shape-the_row-Cond-0
    hidden-the_row-Cond-0 hidden
returns-clause-index c = refl

pub returns-clause-truth : goal.returns-clause-truth
unfolding shape-the_row-Spot-0 hidden-the_row-Spot-0 shape-the_row-Expr-1 hidden-the_row-Expr-1 shape-the_row-Cond-0
    hidden-the_row-Cond-0 hidden
returns-clause-truth c = refl

pub returns-clause-not : goal.returns-clause-not
unfolding shape-the_row-Spot-0 hidden-the_row-Spot-0 shape-the_row-Expr-1 hidden-the_row-Expr-1 shape-the_row-Cond-0
    hidden-the_row-Cond-0 hidden
returns-clause-not c = refl

pub returns-clause-left : goal.returns-clause-left
unfolding shape-the_row-Spot-0 hidden-the_row-Spot-0 shape-the_row-Expr-1 hidden-the_row-Expr-1 shape-the_row-Cond-0
    hidden-the_row-Cond-0 hidden
returns-clause-left c = refl

pub returns-clause-compared : goal.returns-clause-compared
unfolding shape-the_row-Spot-0 hidden-the_row-Spot-0 shape-the_row-Expr-1 hidden-the_row-Expr-1 shape-the_row-Cond-0
    hidden-the_row-Cond-0 hidden
returns-clause-compared c = refl

pub returns-clause-and : goal.returns-clause-and
unfolding shape-the_row-Spot-0 hidden-the_row-Spot-0 shape-the_row-Expr-1 hidden-the_row-Expr-1 shape-the_row-Cond-0
    hidden-the_row-Cond-0 hidden
returns-clause-and c = refl

pub returns-clause-or : goal.returns-clause-or
unfolding shape-the_row-Spot-0 hidden-the_row-Spot-0 shape-the_row-Expr-1 hidden-the_row-Expr-1 shape-the_row-Cond-0
    hidden-the_row-Cond-0 hidden
returns-clause-or c = refl
