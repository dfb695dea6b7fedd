use Rattle.std.proofs.Common.{refl}
use Rattle.std.specs.Int.{int_wrap}
use Rattle.tal_tree.specs.declared.statement.What.{out-What}
use Rattle.tal_tree.specs.declared.statement.What.TheBlock.{shown-the_row-Statement-0, shape-the_row-Statement-0}
use Rattle.tal_tree.specs.declared.statement.What.TheBlock.{hidden-the_row-Statement-0}
use Rattle.tal_tree.specs.declared.expression.Expr.TheBlock.{shape-the_row-Spot-0, hidden-the_row-Spot-0}
use Rattle.tal_tree.specs.declared.expression.Expr.TheBlock.{shape-the_row-Expr-1, hidden-the_row-Expr-1}
use denote.Hole.Carrier.{shown, hidden, out}
use Rattle.process_guards.proofs.steps.a_do_comes_again_until_its_test_holds.Goals as goal

pub returns-clause-first : goal.returns-clause-first
unfolding shown-the_row-Statement-0 shown int_wrap out-What out shape-the_row-Statement-0 hidden-the_row-Statement-0
    shape-the_row-Spot-0 hidden-the_row-Spot-0 shape-the_row-Expr-1 hidden-the_row-Expr-1 hidden
returns-clause-first c = refl

pub returns-clause-holds : goal.returns-clause-holds
unfolding shown-the_row-Statement-0 shown int_wrap out-What out shape-the_row-Statement-0 hidden-the_row-Statement-0
    shape-the_row-Spot-0 hidden-the_row-Spot-0 shape-the_row-Expr-1 hidden-the_row-Expr-1 hidden
returns-clause-holds c = refl

pub returns-clause-fails : goal.returns-clause-fails
unfolding shown-the_row-Statement-0 shown int_wrap out-What out shape-the_row-Statement-0 hidden-the_row-Statement-0
    shape-the_row-Spot-0 hidden-the_row-Spot-0 shape-the_row-Expr-1 hidden-the_row-Expr-1 hidden
returns-clause-fails c = refl
