use Rattle.std.proofs.Common.{refl}
use Rattle.tal_tree.specs.declared.expression.Expr.TheBlock.{shape-the_row-Spot-0, hidden-the_row-Spot-0}
use Rattle.tal_tree.specs.declared.expression.Expr.TheBlock.{shape-the_row-Expr-1, hidden-the_row-Expr-1}
use Rattle.tal_tree.specs.declared.expression.Cond.TheBlock.{shape-the_row-Cond-0, hidden-the_row-Cond-0}
use denote.Hole.Carrier.{hidden}
use Rattle.code_room.proofs.guards.none_waits_for_what_is_ready.Goals as goal

pub returns-clause-number : goal.returns-clause-number
unfolding shape-the_row-Spot-0 hidden-the_row-Spot-0 shape-the_row-Expr-1 hidden-the_row-Expr-1 shape-the_row-Cond-0
    hidden-the_row-Cond-0 hidden
returns-clause-number c = refl

pub returns-clause-local : goal.returns-clause-local
unfolding shape-the_row-Spot-0 hidden-the_row-Spot-0 shape-the_row-Expr-1 hidden-the_row-Expr-1 shape-the_row-Cond-0
    hidden-the_row-Cond-0 hidden
returns-clause-local c = refl

pub returns-clause-simple : goal.returns-clause-simple
unfolding shape-the_row-Spot-0 hidden-the_row-Spot-0 shape-the_row-Expr-1 hidden-the_row-Expr-1 shape-the_row-Cond-0
    hidden-the_row-Cond-0 hidden
returns-clause-simple c = refl

pub returns-clause-element : goal.returns-clause-element
unfolding shape-the_row-Spot-0 hidden-the_row-Spot-0 shape-the_row-Expr-1 hidden-the_row-Expr-1 shape-the_row-Cond-0
    hidden-the_row-Cond-0 hidden
returns-clause-element c = refl

pub returns-clause-minus : goal.returns-clause-minus
unfolding shape-the_row-Spot-0 hidden-the_row-Spot-0 shape-the_row-Expr-1 hidden-the_row-Expr-1 shape-the_row-Cond-0
    hidden-the_row-Cond-0 hidden
returns-clause-minus c = refl

pub returns-clause-product : goal.returns-clause-product
unfolding shape-the_row-Spot-0 hidden-the_row-Spot-0 shape-the_row-Expr-1 hidden-the_row-Expr-1 shape-the_row-Cond-0
    hidden-the_row-Cond-0 hidden
returns-clause-product c = refl

pub returns-clause-left : goal.returns-clause-left
unfolding shape-the_row-Spot-0 hidden-the_row-Spot-0 shape-the_row-Expr-1 hidden-the_row-Expr-1 shape-the_row-Cond-0
    hidden-the_row-Cond-0 hidden
returns-clause-left c = refl

pub returns-clause-compared : goal.returns-clause-compared
unfolding shape-the_row-Spot-0 hidden-the_row-Spot-0 shape-the_row-Expr-1 hidden-the_row-Expr-1 shape-the_row-Cond-0
    hidden-the_row-Cond-0 hidden
returns-clause-compared c = refl

pub returns-clause-compared_minus : goal.returns-clause-compared_minus
unfolding shape-the_row-Spot-0 hidden-the_row-Spot-0 shape-the_row-Expr-1 hidden-the_row-Expr-1 shape-the_row-Cond-0
    hidden-the_row-Cond-0 hidden
returns-clause-compared_minus c = refl
