use Rattle.std.proofs.Common.{refl}
use Rattle.std.specs.Int.{int_wrap}
use Rattle.tal_tree.specs.declared.statement.What.{out-What}
use Rattle.tal_tree.specs.declared.statement.What.TheBlock.{shown-the_row-Statement-0, shape-the_row-Statement-0}
use Rattle.tal_tree.specs.declared.statement.What.TheBlock.{hidden-the_row-Statement-0}
use Rattle.tal_tree.specs.declared.expression.Expr.TheBlock.{shape-the_row-Spot-0, hidden-the_row-Spot-0}
use Rattle.tal_tree.specs.declared.expression.Expr.TheBlock.{shape-the_row-Expr-1, hidden-the_row-Expr-1}
use denote.Hole.Carrier.{shown, hidden, out}
use Rattle.process_guards.proofs.steps.a_for_traps_with_its_limit.Goals as goal

pub returns-clause-limit : goal.returns-clause-limit
unfolding shown-the_row-Statement-0 shown int_wrap out-What out shape-the_row-Statement-0 hidden-the_row-Statement-0
    shape-the_row-Spot-0 hidden-the_row-Spot-0 shape-the_row-Expr-1 hidden-the_row-Expr-1 hidden
returns-clause-limit c = refl

pub returns-clause-variable : goal.returns-clause-variable
unfolding shown-the_row-Statement-0 shown int_wrap out-What out shape-the_row-Statement-0 hidden-the_row-Statement-0
    shape-the_row-Spot-0 hidden-the_row-Spot-0 shape-the_row-Expr-1 hidden-the_row-Expr-1 hidden
returns-clause-variable c = refl

pub returns-clause-counted : goal.returns-clause-counted
unfolding shown-the_row-Statement-0 shown int_wrap out-What out shape-the_row-Statement-0 hidden-the_row-Statement-0
    shape-the_row-Spot-0 hidden-the_row-Spot-0 shape-the_row-Expr-1 hidden-the_row-Expr-1 hidden
returns-clause-counted c = refl
