use Rattle.std.proofs.Common.{refl}
use Rattle.std.specs.Int.{int_wrap}
use Rattle.tal_tree.specs.declared.expression.Expr.TheBlock.{shape-the_row-Spot-0, hidden-the_row-Spot-0}
use Rattle.tal_tree.specs.declared.expression.Expr.TheBlock.{shape-the_row-Expr-1, hidden-the_row-Expr-1}
use Rattle.tal_tree.specs.declared.expression.Cond.TheBlock.{shape-the_row-Cond-0, hidden-the_row-Cond-0}
use denote.Hole.Carrier.{hidden}
use Rattle.value_traps.proofs.guards.no_trap_is_met_unseen.Goals as goal

pub returns : goal.returns
unfolding int_wrap shape-the_row-Spot-0 hidden-the_row-Spot-0 shape-the_row-Expr-1 hidden-the_row-Expr-1
    shape-the_row-Cond-0 hidden-the_row-Cond-0 hidden
returns c = refl
