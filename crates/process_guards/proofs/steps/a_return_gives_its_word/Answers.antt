use Rattle.std.proofs.Common.{refl}
use Rattle.std.specs.Int.{int_wrap}
use Rattle.tal_tree.specs.declared.statement.What.{out-What}
use Rattle.tal_tree.specs.declared.statement.What.TheBlock.{shape-the_row-Statement-0, hidden-the_row-Statement-0}
use Rattle.tal_tree.specs.declared.expression.Expr.TheBlock.{shape-the_row-Spot-0, hidden-the_row-Spot-0}
use Rattle.tal_tree.specs.declared.expression.Expr.TheBlock.{shape-the_row-Expr-1, hidden-the_row-Expr-1}
use denote.Hole.Carrier.{hidden, out}
use Rattle.process_guards.proofs.steps.a_return_gives_its_word.Goals as goal

pub returns-clause-given : goal.returns-clause-given
unfolding int_wrap out-What out shape-the_row-Statement-0 hidden-the_row-Statement-0 shape-the_row-Spot-0
    hidden-the_row-Spot-0 shape-the_row-Expr-1 hidden-the_row-Expr-1 hidden
returns-clause-given c = refl

pub returns-clause-at_the_end : goal.returns-clause-at_the_end
unfolding int_wrap out-What out shape-the_row-Statement-0 hidden-the_row-Statement-0 shape-the_row-Spot-0
    hidden-the_row-Spot-0 shape-the_row-Expr-1 hidden-the_row-Expr-1 hidden
returns-clause-at_the_end c = refl

pub returns-clause-not_kept : goal.returns-clause-not_kept
unfolding int_wrap out-What out shape-the_row-Statement-0 hidden-the_row-Statement-0 shape-the_row-Spot-0
    hidden-the_row-Spot-0 shape-the_row-Expr-1 hidden-the_row-Expr-1 hidden
returns-clause-not_kept c = refl
