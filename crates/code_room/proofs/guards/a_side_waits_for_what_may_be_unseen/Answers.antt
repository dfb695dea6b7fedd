use Rattle.std.proofs.Common.{refl}
use Rattle.tal_tree.specs.declared.expression.Expr.TheBlock.{shape-the_row-Spot-0, hidden-the_row-Spot-0}
use Rattle.tal_tree.specs.declared.expression.Expr.TheBlock.{shape-the_row-Expr-1, hidden-the_row-Expr-1}
use Rattle.tal_tree.specs.declared.expression.Cond.TheBlock.{shape-the_row-Cond-0, hidden-the_row-Cond-0}
use denote.Hole.Carrier.{hidden}
use Rattle.code_room.proofs.guards.a_side_waits_for_what_may_be_unseen.Goals as goal

pub returns-clause-and : goal.returns-clause-and
unfolding shape-the_row-Spot-0 hidden-the_row-Spot-0 shape-the_row-Expr-1 hidden-the_row-Expr-1 shape-the_row-Cond-0
    hidden-the_row-Cond-0 hidden
returns-clause-and c = refl

pub returns-clause-or : goal.returns-clause-or
unfolding shape-the_row-Spot-0 hidden-the_row-Spot-0 shape-the_row-Expr-1 hidden-the_row-Expr-1 shape-the_row-Cond-0
    hidden-the_row-Cond-0 hidden
returns-clause-or c = refl
