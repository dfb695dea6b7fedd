use Rattle.std.proofs.Common.{refl}
use Rattle.std.specs.Int.{int_wrap}
use Rattle.tal_tree.specs.declared.statement.What.{out-What}
use Rattle.tal_tree.specs.declared.statement.What.TheBlock.{shape-the_row-Statement-0, hidden-the_row-Statement-0}
use Rattle.tal_tree.specs.declared.expression.Expr.TheBlock.{shape-the_row-Spot-0, hidden-the_row-Spot-0}
use Rattle.tal_tree.specs.declared.expression.Expr.TheBlock.{shape-the_row-Expr-1, hidden-the_row-Expr-1}
use denote.Hole.Carrier.{hidden, out}
use Rattle.process_guards.proofs.points.a_count_is_within_bounds.Goals as goal

pub returns-clause-sixteen : goal.returns-clause-sixteen
unfolding int_wrap out-What out shape-the_row-Statement-0 hidden-the_row-Statement-0 shape-the_row-Spot-0
    hidden-the_row-Spot-0 shape-the_row-Expr-1 hidden-the_row-Expr-1 hidden
returns-clause-sixteen c = refl

pub returns-clause-none : goal.returns-clause-none
unfolding int_wrap out-What out shape-the_row-Statement-0 hidden-the_row-Statement-0 shape-the_row-Spot-0
    hidden-the_row-Spot-0 shape-the_row-Expr-1 hidden-the_row-Expr-1 hidden
returns-clause-none c = refl

pub returns-clause-seventeen : goal.returns-clause-seventeen
unfolding int_wrap out-What out shape-the_row-Statement-0 hidden-the_row-Statement-0 shape-the_row-Spot-0
    hidden-the_row-Spot-0 shape-the_row-Expr-1 hidden-the_row-Expr-1 hidden
returns-clause-seventeen c = refl

pub returns-clause-below : goal.returns-clause-below
unfolding int_wrap out-What out shape-the_row-Statement-0 hidden-the_row-Statement-0 shape-the_row-Spot-0
    hidden-the_row-Spot-0 shape-the_row-Expr-1 hidden-the_row-Expr-1 hidden
returns-clause-below c = refl

pub returns-clause-past_the_array : goal.returns-clause-past_the_array
unfolding int_wrap out-What out shape-the_row-Statement-0 hidden-the_row-Statement-0 shape-the_row-Spot-0
    hidden-the_row-Spot-0 shape-the_row-Expr-1 hidden-the_row-Expr-1 hidden
returns-clause-past_the_array c = refl
