use Rattle.std.proofs.Common.{arith, append_assoc}
use Rattle.std.proofs.lemmas.Grind.{common_steps}
use Rattle.statement_lines.proofs.Layers.{one-more, lines-if, lines-while, lines-for, lines-do}
use Rattle.statement_lines.proofs.lines.+lines.Goals as goal

pub push_lines-loop-statement-preserved : goal.push_lines-loop-statement-preserved
push_lines-loop-statement-preserved t c =
    rw (one-more c.args.statements.now c.loop-statement.statement-index c.statement-item.result c.statement-item.is
    c.loop-statement-test.true)
    (grind (arith, append_assoc, common_steps))

pub push_within-returns-in_ok-push_lines-in-If-2 : goal.push_within-returns-in_ok-push_lines-in-If-2
push_within-returns-in_ok-push_lines-in-If-2 t c = rw (c.in-If.is, lines-if) (grind (arith, append_assoc, common_steps))

pub push_within-returns-in_ok-push_lines-in-While : goal.push_within-returns-in_ok-push_lines-in-While
push_within-returns-in_ok-push_lines-in-While t c =
    rw (c.in-While.is, lines-while) (grind (arith, append_assoc, common_steps))

pub push_within-returns-in_ok-push-in-For-2 : goal.push_within-returns-in_ok-push-in-For-2
push_within-returns-in_ok-push-in-For-2 t c = rw (c.in-For.is, lines-for) (grind (arith, append_assoc, common_steps))

pub push_before-returns-in-DoUntil : goal.push_before-returns-in-DoUntil
push_before-returns-in-DoUntil t c = rw (c.in-DoUntil.is, lines-do) (grind (arith, append_assoc, common_steps))
