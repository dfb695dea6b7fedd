use Rattle.std.proofs.Common.{refl}
use Rattle.std.specs.Int.{int_wrap}
use Rattle.tal_tree.specs.declared.statement.What.{out-What}
use Rattle.tal_tree.specs.declared.statement.What.TheBlock.{shape-the_row-Statement-0, hidden-the_row-Statement-0}
use Rattle.tal_tree.specs.declared.expression.Expr.TheBlock.{shape-the_row-Spot-0, hidden-the_row-Spot-0}
use Rattle.tal_tree.specs.declared.expression.Expr.TheBlock.{shape-the_row-Expr-1, hidden-the_row-Expr-1}
use denote.Hole.Carrier.{hidden, out}
use Rattle.process_guards.proofs.points.an_ask_is_awaited.Goals as goal

pub returns-clause-asked : goal.returns-clause-asked
unfolding int_wrap out-What out shape-the_row-Statement-0 hidden-the_row-Statement-0 shape-the_row-Spot-0
    hidden-the_row-Spot-0 shape-the_row-Expr-1 hidden-the_row-Expr-1 hidden
returns-clause-asked c = refl

pub returns-clause-awaited : goal.returns-clause-awaited
unfolding int_wrap out-What out shape-the_row-Statement-0 hidden-the_row-Statement-0 shape-the_row-Spot-0
    hidden-the_row-Spot-0 shape-the_row-Expr-1 hidden-the_row-Expr-1 hidden
returns-clause-awaited c = refl

pub returns-clause-too_many_there : goal.returns-clause-too_many_there
unfolding int_wrap out-What out shape-the_row-Statement-0 hidden-the_row-Statement-0 shape-the_row-Spot-0
    hidden-the_row-Spot-0 shape-the_row-Expr-1 hidden-the_row-Expr-1 hidden
returns-clause-too_many_there c = refl

pub returns-clause-too_many_back : goal.returns-clause-too_many_back
unfolding int_wrap out-What out shape-the_row-Statement-0 hidden-the_row-Statement-0 shape-the_row-Spot-0
    hidden-the_row-Spot-0 shape-the_row-Expr-1 hidden-the_row-Expr-1 hidden
returns-clause-too_many_back c = refl
