use Rattle.std.proofs.Common.{arith, append_assoc}
use Rattle.std.proofs.lemmas.Grind.{common_steps}
use Rattle.advice_search.proofs.Places.{one-more, places-if, places-while, places-for, places-do}
use Rattle.advice_search.proofs.checkpoints.+checkpoints.Goals as goal

pub push_all-loop-statement-preserved : goal.push_all-loop-statement-preserved
push_all-loop-statement-preserved t c =
    rw (one-more c.args.statements.now c.loop-statement.statement-index c.statement-item.result c.statement-item.is
    c.loop-statement-test.true)
    (grind (arith, append_assoc, common_steps))

pub push_in-returns-in_ok-push_all-in-If-2 : goal.push_in-returns-in_ok-push_all-in-If-2
push_in-returns-in_ok-push_all-in-If-2 t c =
    rw (places-if c.args.statement.now c.in-If.test c.in-If.yes c.in-If.no c.in-If.is)
    (grind (arith, append_assoc, common_steps))

pub push_in-returns-in_ok-push_all-in-While : goal.push_in-returns-in_ok-push_all-in-While
push_in-returns-in_ok-push_all-in-While t c =
    rw (places-while c.args.statement.now c.in-While.test c.in-While.body c.in-While.is)
    (grind (arith, append_assoc, common_steps))

pub push_in-returns-in_ok-push_all-in-For : goal.push_in-returns-in_ok-push_all-in-For
push_in-returns-in_ok-push_all-in-For t c =
    rw (places-for c.args.statement.now c.in-For.variable c.in-For.from c.in-For.to c.in-For.down c.in-For.step
    c.in-For.body c.in-For.last c.in-For.is)
    (grind (arith, append_assoc, common_steps))

pub push_in-returns-in_ok-push_all-in-DoUntil : goal.push_in-returns-in_ok-push_all-in-DoUntil
push_in-returns-in_ok-push_all-in-DoUntil t c =
    rw (places-do c.args.statement.now c.in-DoUntil.body c.in-DoUntil.test c.in-DoUntil.is)
    (grind (arith, append_assoc, common_steps))
