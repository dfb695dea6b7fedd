use Rattle.std.proofs.Common.{refl}
use Rattle.tal_tree.specs.declared.expression.Expr.TheBlock.{shape-the_row-Spot-0, hidden-the_row-Spot-0}
use Rattle.tal_tree.specs.declared.expression.Expr.TheBlock.{shape-the_row-Expr-1, hidden-the_row-Expr-1}
use Rattle.tal_tree.specs.declared.expression.Cond.TheBlock.{shape-the_row-Cond-0, hidden-the_row-Cond-0}
use denote.Hole.Carrier.{hidden}
use Rattle.code_room.proofs.guards.each_part_of_a_statement_counts.Goals as goal

pub returns-clause-target : goal.returns-clause-target
unfolding shape-the_row-Spot-0 hidden-the_row-Spot-0 shape-the_row-Expr-1 hidden-the_row-Expr-1 shape-the_row-Cond-0
    hidden-the_row-Cond-0 hidden
returns-clause-target c = refl

pub returns-clause-value : goal.returns-clause-value
unfolding shape-the_row-Spot-0 hidden-the_row-Spot-0 shape-the_row-Expr-1 hidden-the_row-Expr-1 shape-the_row-Cond-0
    hidden-the_row-Cond-0 hidden
returns-clause-value c = refl

pub returns-clause-call_target : goal.returns-clause-call_target
unfolding shape-the_row-Spot-0 hidden-the_row-Spot-0 shape-the_row-Expr-1 hidden-the_row-Expr-1 shape-the_row-Cond-0
    hidden-the_row-Cond-0 hidden
returns-clause-call_target c = refl

pub returns-clause-call_argument : goal.returns-clause-call_argument
unfolding shape-the_row-Spot-0 hidden-the_row-Spot-0 shape-the_row-Expr-1 hidden-the_row-Expr-1 shape-the_row-Cond-0
    hidden-the_row-Cond-0 hidden
returns-clause-call_argument c = refl

pub returns-clause-if_test : goal.returns-clause-if_test
unfolding shape-the_row-Spot-0 hidden-the_row-Spot-0 shape-the_row-Expr-1 hidden-the_row-Expr-1 shape-the_row-Cond-0
    hidden-the_row-Cond-0 hidden
returns-clause-if_test c = refl

pub returns-clause-while_test : goal.returns-clause-while_test
unfolding shape-the_row-Spot-0 hidden-the_row-Spot-0 shape-the_row-Expr-1 hidden-the_row-Expr-1 shape-the_row-Cond-0
    hidden-the_row-Cond-0 hidden
returns-clause-while_test c = refl

pub returns-clause-from : goal.returns-clause-from
unfolding shape-the_row-Spot-0 hidden-the_row-Spot-0 shape-the_row-Expr-1 hidden-the_row-Expr-1 shape-the_row-Cond-0
    hidden-the_row-Cond-0 hidden
returns-clause-from c = refl

pub returns-clause-to : goal.returns-clause-to
unfolding shape-the_row-Spot-0 hidden-the_row-Spot-0 shape-the_row-Expr-1 hidden-the_row-Expr-1 shape-the_row-Cond-0
    hidden-the_row-Cond-0 hidden
returns-clause-to c = refl

pub returns-clause-do_test : goal.returns-clause-do_test
unfolding shape-the_row-Spot-0 hidden-the_row-Spot-0 shape-the_row-Expr-1 hidden-the_row-Expr-1 shape-the_row-Cond-0
    hidden-the_row-Cond-0 hidden
returns-clause-do_test c = refl

pub returns-clause-argument : goal.returns-clause-argument
unfolding shape-the_row-Spot-0 hidden-the_row-Spot-0 shape-the_row-Expr-1 hidden-the_row-Expr-1 shape-the_row-Cond-0
    hidden-the_row-Cond-0 hidden
returns-clause-argument c = refl

pub returns-clause-answer : goal.returns-clause-answer
unfolding shape-the_row-Spot-0 hidden-the_row-Spot-0 shape-the_row-Expr-1 hidden-the_row-Expr-1 shape-the_row-Cond-0
    hidden-the_row-Cond-0 hidden
returns-clause-answer c = refl

pub returns-clause-most : goal.returns-clause-most
unfolding shape-the_row-Spot-0 hidden-the_row-Spot-0 shape-the_row-Expr-1 hidden-the_row-Expr-1 shape-the_row-Cond-0
    hidden-the_row-Cond-0 hidden
returns-clause-most c = refl

pub returns-clause-count : goal.returns-clause-count
unfolding shape-the_row-Spot-0 hidden-the_row-Spot-0 shape-the_row-Expr-1 hidden-the_row-Expr-1 shape-the_row-Cond-0
    hidden-the_row-Cond-0 hidden
returns-clause-count c = refl

pub returns-clause-sent : goal.returns-clause-sent
unfolding shape-the_row-Spot-0 hidden-the_row-Spot-0 shape-the_row-Expr-1 hidden-the_row-Expr-1 shape-the_row-Cond-0
    hidden-the_row-Cond-0 hidden
returns-clause-sent c = refl

pub returns-clause-room : goal.returns-clause-room
unfolding shape-the_row-Spot-0 hidden-the_row-Spot-0 shape-the_row-Expr-1 hidden-the_row-Expr-1 shape-the_row-Cond-0
    hidden-the_row-Cond-0 hidden
returns-clause-room c = refl
