use Rattle.std.proofs.Common.{refl}
use Rattle.std.specs.Int.{int_wrap}
use Rattle.tal_tree.specs.declared.expression.Expr.TheBlock.{shape-the_row-Spot-0, hidden-the_row-Spot-0}
use Rattle.tal_tree.specs.declared.expression.Expr.TheBlock.{shape-the_row-Expr-1, hidden-the_row-Expr-1}
use Rattle.tal_tree.specs.declared.expression.Cond.TheBlock.{shape-the_row-Cond-0, hidden-the_row-Cond-0}
use denote.Hole.Carrier.{hidden}
use Rattle.value_traps.proofs.guards.what_is_not_there_is_told.Goals as goal

pub returns-clause-local : goal.returns-clause-local
unfolding int_wrap shape-the_row-Spot-0 hidden-the_row-Spot-0 shape-the_row-Expr-1 hidden-the_row-Expr-1
    shape-the_row-Cond-0 hidden-the_row-Cond-0 hidden
returns-clause-local c = refl

pub returns-clause-item : goal.returns-clause-item
unfolding int_wrap shape-the_row-Spot-0 hidden-the_row-Spot-0 shape-the_row-Expr-1 hidden-the_row-Expr-1
    shape-the_row-Cond-0 hidden-the_row-Cond-0 hidden
returns-clause-item c = refl

pub returns-clause-simple : goal.returns-clause-simple
unfolding int_wrap shape-the_row-Spot-0 hidden-the_row-Spot-0 shape-the_row-Expr-1 hidden-the_row-Expr-1
    shape-the_row-Cond-0 hidden-the_row-Cond-0 hidden
returns-clause-simple c = refl
