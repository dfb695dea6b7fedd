use Rattle.std.proofs.Common.{refl}
use Rattle.std.specs.Int.{int_wrap}
use Rattle.tal_tree.specs.declared.statement.What.{out-What}
use Rattle.tal_tree.specs.declared.statement.What.TheBlock.{shape-the_row-Statement-0, hidden-the_row-Statement-0}
use Rattle.tal_tree.specs.declared.expression.Expr.TheBlock.{shape-the_row-Spot-0, hidden-the_row-Spot-0}
use Rattle.tal_tree.specs.declared.expression.Expr.TheBlock.{shape-the_row-Expr-1, hidden-the_row-Expr-1}
use denote.Hole.Carrier.{hidden, out}
use Rattle.process_guards.proofs.points.a_request_is_taken_and_answered_in_turn.Goals as goal

pub returns-clause-second_take : goal.returns-clause-second_take
unfolding int_wrap out-What out shape-the_row-Statement-0 hidden-the_row-Statement-0 shape-the_row-Spot-0
    hidden-the_row-Spot-0 shape-the_row-Expr-1 hidden-the_row-Expr-1 hidden
returns-clause-second_take c = refl

pub returns-clause-answer : goal.returns-clause-answer
unfolding int_wrap out-What out shape-the_row-Statement-0 hidden-the_row-Statement-0 shape-the_row-Spot-0
    hidden-the_row-Spot-0 shape-the_row-Expr-1 hidden-the_row-Expr-1 hidden
returns-clause-answer c = refl

pub returns-clause-answer_of_none : goal.returns-clause-answer_of_none
unfolding int_wrap out-What out shape-the_row-Statement-0 hidden-the_row-Statement-0 shape-the_row-Spot-0
    hidden-the_row-Spot-0 shape-the_row-Expr-1 hidden-the_row-Expr-1 hidden
returns-clause-answer_of_none c = refl
