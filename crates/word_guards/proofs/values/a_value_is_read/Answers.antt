use Rattle.std.proofs.Common.{refl}
use Rattle.std.specs.Int.{int_wrap}
use Rattle.tal_tree.specs.declared.expression.Expr.TheBlock.{shape-the_row-Spot-0, hidden-the_row-Spot-0}
use Rattle.tal_tree.specs.declared.expression.Expr.TheBlock.{shape-the_row-Expr-1, hidden-the_row-Expr-1}
use Rattle.tal_tree.specs.declared.expression.Cond.TheBlock.{shape-the_row-Cond-0, hidden-the_row-Cond-0}
use denote.Hole.Carrier.{hidden}
use Rattle.word_guards.proofs.values.a_value_is_read.Goals as goal

pub returns-clause-local : goal.returns-clause-local
unfolding int_wrap shape-the_row-Spot-0 hidden-the_row-Spot-0 shape-the_row-Expr-1 hidden-the_row-Expr-1
    shape-the_row-Cond-0 hidden-the_row-Cond-0 hidden
returns-clause-local c = refl

pub returns-clause-global : goal.returns-clause-global
unfolding int_wrap shape-the_row-Spot-0 hidden-the_row-Spot-0 shape-the_row-Expr-1 hidden-the_row-Expr-1
    shape-the_row-Cond-0 hidden-the_row-Cond-0 hidden
returns-clause-global c = refl

pub returns-clause-lowest : goal.returns-clause-lowest
unfolding int_wrap shape-the_row-Spot-0 hidden-the_row-Spot-0 shape-the_row-Expr-1 hidden-the_row-Expr-1
    shape-the_row-Cond-0 hidden-the_row-Cond-0 hidden
returns-clause-lowest c = refl

pub returns-clause-highest : goal.returns-clause-highest
unfolding int_wrap shape-the_row-Spot-0 hidden-the_row-Spot-0 shape-the_row-Expr-1 hidden-the_row-Expr-1
    shape-the_row-Cond-0 hidden-the_row-Cond-0 hidden
returns-clause-highest c = refl

pub returns-clause-below : goal.returns-clause-below
unfolding int_wrap shape-the_row-Spot-0 hidden-the_row-Spot-0 shape-the_row-Expr-1 hidden-the_row-Expr-1
    shape-the_row-Cond-0 hidden-the_row-Cond-0 hidden
returns-clause-below c = refl

pub returns-clause-above : goal.returns-clause-above
unfolding int_wrap shape-the_row-Spot-0 hidden-the_row-Spot-0 shape-the_row-Expr-1 hidden-the_row-Expr-1
    shape-the_row-Cond-0 hidden-the_row-Cond-0 hidden
returns-clause-above c = refl
