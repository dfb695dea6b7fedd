use Rattle.std.proofs.Common.{arith, append_assoc}
use Rattle.std.proofs.lemmas.Grind.{common_steps}
use Rattle.program_entries.proofs.Layers.{one-more, entries-if, entries-while, entries-for, entries-do}
use Rattle.program_entries.proofs.entries.+entries.Goals as goal

pub push_entries-loop-statement-preserved : goal.push_entries-loop-statement-preserved
push_entries-loop-statement-preserved t c =
    rw (one-more c.args.statements.now c.loop-statement.statement-index c.statement-item.result c.statement-item.is
    c.loop-statement-test.true)
    (grind (arith, append_assoc, common_steps))

pub push_within-returns-in_ok-push_entries-in-If-2 : goal.push_within-returns-in_ok-push_entries-in-If-2
push_within-returns-in_ok-push_entries-in-If-2 t c =
    rw (c.in-If.is, entries-if) (grind (arith, append_assoc, common_steps))

pub push_within-returns-in_ok-push_entries-in-While : goal.push_within-returns-in_ok-push_entries-in-While
push_within-returns-in_ok-push_entries-in-While t c =
    rw (c.in-While.is, entries-while) (grind (arith, append_assoc, common_steps))

pub push_within-returns-in_ok-push-in-For-2 : goal.push_within-returns-in_ok-push-in-For-2
push_within-returns-in_ok-push-in-For-2 t c =
    rw (c.in-For.is, entries-for) (grind (arith, append_assoc, common_steps))

pub push_before-returns-in-DoUntil : goal.push_before-returns-in-DoUntil
push_before-returns-in-DoUntil t c = rw (c.in-DoUntil.is, entries-do) (grind (arith, append_assoc, common_steps))
