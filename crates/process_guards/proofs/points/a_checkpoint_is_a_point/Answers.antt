use Rattle.std.proofs.Common.{refl}
use Rattle.std.specs.Int.{int_wrap}
use Rattle.tal_tree.specs.declared.statement.What.{out-What}
use Rattle.tal_tree.specs.declared.statement.What.TheBlock.{shape-the_row-Statement-0, hidden-the_row-Statement-0}
use Rattle.tal_tree.specs.declared.expression.Expr.TheBlock.{shape-the_row-Spot-0, hidden-the_row-Spot-0}
use Rattle.tal_tree.specs.declared.expression.Expr.TheBlock.{shape-the_row-Expr-1, hidden-the_row-Expr-1}
use denote.Hole.Carrier.{hidden, out}
use Rattle.process_guards.proofs.points.a_checkpoint_is_a_point.Goals as goal

pub returns-clause-checkpoint : goal.returns-clause-checkpoint
unfolding int_wrap out-What out shape-the_row-Statement-0 hidden-the_row-Statement-0 shape-the_row-Spot-0
    hidden-the_row-Spot-0 shape-the_row-Expr-1 hidden-the_row-Expr-1 hidden
returns-clause-checkpoint c = refl

pub returns-clause-ended : goal.returns-clause-ended
unfolding int_wrap out-What out shape-the_row-Statement-0 hidden-the_row-Statement-0 shape-the_row-Spot-0
    hidden-the_row-Spot-0 shape-the_row-Expr-1 hidden-the_row-Expr-1 hidden
returns-clause-ended c = refl

pub returns-clause-stop : goal.returns-clause-stop
unfolding int_wrap out-What out shape-the_row-Statement-0 hidden-the_row-Statement-0 shape-the_row-Spot-0
    hidden-the_row-Spot-0 shape-the_row-Expr-1 hidden-the_row-Expr-1 hidden
returns-clause-stop c = refl

pub returns-clause-until : goal.returns-clause-until
unfolding int_wrap out-What out shape-the_row-Statement-0 hidden-the_row-Statement-0 shape-the_row-Spot-0
    hidden-the_row-Spot-0 shape-the_row-Expr-1 hidden-the_row-Expr-1 hidden
returns-clause-until c = refl
