use Rattle.std.proofs.Common.{refl}
use Rattle.std.specs.Int.{int_wrap}
use Rattle.tal_tree.specs.declared.statement.What.{out-What}
use Rattle.tal_tree.specs.declared.statement.What.TheBlock.{shown-the_row-Statement-0, shape-the_row-Statement-0}
use Rattle.tal_tree.specs.declared.statement.What.TheBlock.{hidden-the_row-Statement-0}
use Rattle.tal_tree.specs.declared.expression.Expr.TheBlock.{shape-the_row-Spot-0, hidden-the_row-Spot-0}
use Rattle.tal_tree.specs.declared.expression.Expr.TheBlock.{shape-the_row-Expr-1, hidden-the_row-Expr-1}
use denote.Hole.Carrier.{shown, hidden, out}
use Rattle.process_guards.proofs.steps.a_for_goes_down_to_its_limit.Goals as goal

pub returns-clause-round : goal.returns-clause-round
unfolding shown-the_row-Statement-0 shown int_wrap out-What out shape-the_row-Statement-0 hidden-the_row-Statement-0
    shape-the_row-Spot-0 hidden-the_row-Spot-0 shape-the_row-Expr-1 hidden-the_row-Expr-1 hidden
returns-clause-round c = refl

pub returns-clause-past : goal.returns-clause-past
unfolding shown-the_row-Statement-0 shown int_wrap out-What out shape-the_row-Statement-0 hidden-the_row-Statement-0
    shape-the_row-Spot-0 hidden-the_row-Spot-0 shape-the_row-Expr-1 hidden-the_row-Expr-1 hidden
returns-clause-past c = refl

pub returns-clause-next : goal.returns-clause-next
unfolding shown-the_row-Statement-0 shown int_wrap out-What out shape-the_row-Statement-0 hidden-the_row-Statement-0
    shape-the_row-Spot-0 hidden-the_row-Spot-0 shape-the_row-Expr-1 hidden-the_row-Expr-1 hidden
returns-clause-next c = refl

pub returns-clause-wraps : goal.returns-clause-wraps
unfolding shown-the_row-Statement-0 shown int_wrap out-What out shape-the_row-Statement-0 hidden-the_row-Statement-0
    shape-the_row-Spot-0 hidden-the_row-Spot-0 shape-the_row-Expr-1 hidden-the_row-Expr-1 hidden
returns-clause-wraps c = refl
