use Rattle.std.proofs.Common.{◌≡◌, IfOk, refl, sym, ap, subst, ◌∙◌}
use Rattle.tal_syntax.specs.Grammar as g
use Rattle.tal_syntax.specs.declared.statement.Next.{Next}
use Rattle.tal_syntax.specs.Seen.{seen_expr, seen_direction, seen_step, seen_statement, seen_otherwise, seen_row}
use Rattle.tal_syntax.proofs.SeenSteps.{seen-block, seen-if, seen-while, seen-for, seen-do, seen-else}
use Rattle.tal_names.specs.Faults.{least}
use Rattle.tal_rules.specs.Statements.{next_walk, after, after_else, after_row, statement_faults, else_faults}
use Rattle.tal_rules.specs.Statements.{row_faults}
use Rattle.tal_rules.proofs.StatementSteps.{block-walk, block-least, if-walk, if-least, while-least, for-least}
use Rattle.tal_rules.proofs.StatementSteps.{do-least}
use Rattle.tal_names.proofs.Turns.{turn_faults, turn_after}
use Rattle.tal_rules.proofs.statement.+statement.Goals as goal

pub judge_else-returns-in-Else-clause-walk : goal.judge_else-returns-in-Else-clause-walk
judge_else-returns-in-Else-clause-walk t c =
    let seen : seen_otherwise c.args.otherwise.now ≡ g.otherwise c.in-Else.field-0 (seen_statement c.get.result.now) =
    ap seen_otherwise c.in-Else.is ∙ seen-else c.in-Else.field-0 c.in-Else.body
    ∙ ap (λ x. g.otherwise c.in-Else.field-0 (seen_statement x)) (sym c.get.ensures) in
    subst (λ x. IfOk c.judge_statement.result (λ j. j.walk ≡ x))
    (ap (after_else c.args.scope.now c.args.walk) (sym seen)) c.judge_statement.ensures.walk

pub judge_else-returns-in-Else-clause-least : goal.judge_else-returns-in-Else-clause-least
judge_else-returns-in-Else-clause-least t c =
    let seen : seen_otherwise c.args.otherwise.now ≡ g.otherwise c.in-Else.field-0 (seen_statement c.get.result.now) =
    ap seen_otherwise c.in-Else.is ∙ seen-else c.in-Else.field-0 c.in-Else.body
    ∙ ap (λ x. g.otherwise c.in-Else.field-0 (seen_statement x)) (sym c.get.ensures) in
    subst (λ x. IfOk c.judge_statement.result (λ j. j.least ≡ x))
    (ap (λ o. least c.args.so_far (else_faults c.args.scope.now c.args.walk o)) (sym seen))
    c.judge_statement.ensures.least

pub judge_row-loop-next-preserved : goal.judge_row-loop-next-preserved
judge_row-loop-next-preserved t c = record {
  walk_is = turn_after (λ d ns. after_row c.args.scope.now d (seen_row ns))
      (λ d (n : Next). after c.args.scope.now d (seen_statement n.statement)) (λ d n ns. refl)
      c.args.more.now c.loop-next.next-index c.next-item.result c.loop-next.judged.walk c.in_ok-judged.judged.walk _
      c.next-item.is c.loop-next-test.true c.in_ok-judged.ensures.walk c.loop-next.invariant.walk_is;
  least_is = turn_faults (λ d ns. row_faults c.args.scope.now d (seen_row ns))
      (λ d (n : Next). statement_faults c.args.scope.now d (seen_statement n.statement))
      (λ d n. after c.args.scope.now d (seen_statement n.statement)) (λ d n ns. refl)
      c.args.more.now c.loop-next.next-index c.next-item.result c.loop-next.judged.walk c.in_ok-judged.judged.walk
      c.loop-next.judged.least c.in_ok-judged.judged.least _
      c.next-item.is c.loop-next-test.true c.in_ok-judged.ensures.least c.in_ok-judged.ensures.walk
      c.loop-next.invariant.least_is;
}

pub judge_statement-returns-in_ok-judged-in-Block-clause-walk :
    goal.judge_statement-returns-in_ok-judged-in-Block-clause-walk
judge_statement-returns-in_ok-judged-in-Block-clause-walk t c =
    let seen : seen_statement c.args.statement.now
    ≡ g.block c.in-Block.field-0 (seen_statement c.get.result.now) (seen_row c.as_slice.result.now)
    c.in-Block.field-3 =
    ap seen_statement c.in-Block.is ∙ seen-block c.in-Block.field-0 c.in-Block.first c.in-Block.more c.in-Block.field-3
    ∙ ap (λ x. g.block c.in-Block.field-0 (seen_statement x) (seen_row c.in-Block.more) c.in-Block.field-3)
    (sym c.get.ensures)
    ∙ ap (λ x. g.block c.in-Block.field-0 (seen_statement c.get.result.now) (seen_row x) c.in-Block.field-3)
    (sym c.as_slice.ensures) in
    subst (λ x. IfOk c.judge_row.result (λ j. j.walk ≡ x))
    (block-walk c.args.scope.now c.args.walk c.in_ok-judged-in-Block.judged.walk c.in-Block.field-0 c.in-Block.field-3
    (seen_statement c.get.result.now) (seen_row c.as_slice.result.now) c.in_ok-judged-in-Block.ensures.walk
    ∙ ap (after c.args.scope.now c.args.walk) (sym seen)) c.judge_row.ensures.walk

pub judge_statement-returns-in_ok-judged-in-Block-clause-least :
    goal.judge_statement-returns-in_ok-judged-in-Block-clause-least
judge_statement-returns-in_ok-judged-in-Block-clause-least t c =
    let seen : seen_statement c.args.statement.now
    ≡ g.block c.in-Block.field-0 (seen_statement c.get.result.now) (seen_row c.as_slice.result.now)
    c.in-Block.field-3 =
    ap seen_statement c.in-Block.is ∙ seen-block c.in-Block.field-0 c.in-Block.first c.in-Block.more c.in-Block.field-3
    ∙ ap (λ x. g.block c.in-Block.field-0 (seen_statement x) (seen_row c.in-Block.more) c.in-Block.field-3)
    (sym c.get.ensures)
    ∙ ap (λ x. g.block c.in-Block.field-0 (seen_statement c.get.result.now) (seen_row x) c.in-Block.field-3)
    (sym c.as_slice.ensures) in
    subst (λ x. IfOk c.judge_row.result (λ j. j.least ≡ x))
    (block-least c.args.scope.now c.args.walk c.in_ok-judged-in-Block.judged.walk c.in-Block.field-0 c.in-Block.field-3
    (seen_statement c.get.result.now) (seen_row c.as_slice.result.now) c.args.so_far
    c.in_ok-judged-in-Block.judged.least
    c.in_ok-judged-in-Block.ensures.walk c.in_ok-judged-in-Block.ensures.least
    ∙ ap (λ x. least c.args.so_far (statement_faults c.args.scope.now c.args.walk x)) (sym seen))
    c.judge_row.ensures.least

pub judge_statement-returns-in_ok-judged-in-If-clause-walk : goal.judge_statement-returns-in_ok-judged-in-If-clause-walk
judge_statement-returns-in_ok-judged-in-If-clause-walk t c =
    let seen : seen_statement c.args.statement.now
    ≡ g.if_then c.in-If.test.head (seen_expr c.in-If.test.test) c.in-If.test.end
    (seen_statement c.get-in-If-2.result.now) (seen_otherwise c.in-If.otherwise) =
    ap seen_statement c.in-If.is ∙ seen-if c.in-If.test c.in-If.body c.in-If.otherwise
    ∙ ap (λ x. g.if_then c.in-If.test.head (seen_expr c.in-If.test.test) c.in-If.test.end (seen_statement x)
    (seen_otherwise c.in-If.otherwise)) (sym c.get-in-If-2.ensures) in
    subst (λ x. IfOk c.judge_else.result (λ j. j.walk ≡ x))
    (if-walk c.args.scope.now c.args.walk c.in_ok-judged-in-If.judged.walk c.in-If.test.head c.in-If.test.end
    (seen_expr c.in-If.test.test) (seen_statement c.get-in-If-2.result.now) (seen_otherwise c.in-If.otherwise)
    (c.in_ok-judged-in-If.ensures.walk ∙ ap (λ x. after c.args.scope.now x (seen_statement c.get-in-If-2.result.now))
    c.stepped.ensures)
    ∙ ap (after c.args.scope.now c.args.walk) (sym seen)) c.judge_else.ensures.walk

pub judge_statement-returns-in_ok-judged-in-If-clause-least :
    goal.judge_statement-returns-in_ok-judged-in-If-clause-least
judge_statement-returns-in_ok-judged-in-If-clause-least t c =
    let seen : seen_statement c.args.statement.now
    ≡ g.if_then c.get-in-If.result.now.head (seen_expr c.get-in-If.result.now.test) c.in-If.test.end
    (seen_statement c.get-in-If-2.result.now) (seen_otherwise c.in-If.otherwise) =
    ap seen_statement c.in-If.is ∙ seen-if c.in-If.test c.in-If.body c.in-If.otherwise
    ∙ ap (λ x. g.if_then c.in-If.test.head (seen_expr c.in-If.test.test) c.in-If.test.end (seen_statement x)
    (seen_otherwise c.in-If.otherwise)) (sym c.get-in-If-2.ensures)
    ∙ ap (λ y. g.if_then y.head (seen_expr y.test) c.in-If.test.end (seen_statement c.get-in-If-2.result.now)
    (seen_otherwise c.in-If.otherwise)) (sym c.get-in-If.ensures) in
    subst (λ x. IfOk c.judge_else.result (λ j. j.least ≡ x))
    (if-least c.args.scope.now c.args.walk c.in_ok-judged-in-If.judged.walk c.get-in-If.result.now.head
    c.in-If.test.end (seen_expr c.get-in-If.result.now.test) (seen_statement c.get-in-If-2.result.now)
    (seen_otherwise c.in-If.otherwise)
    c.args.so_far c.judge_test-so_far.result c.in_ok-judged-in-If.judged.least
    (c.in_ok-judged-in-If.ensures.walk ∙ ap (λ x. after c.args.scope.now x (seen_statement c.get-in-If-2.result.now))
    c.stepped.ensures)
    c.judge_test-so_far.ensures
    (c.in_ok-judged-in-If.ensures.least ∙ ap
    (λ x. least c.judge_test-so_far.result (statement_faults c.args.scope.now x
    (seen_statement c.get-in-If-2.result.now))) c.stepped.ensures)
    ∙ ap (λ x. least c.args.so_far (statement_faults c.args.scope.now c.args.walk x)) (sym seen))
    c.judge_else.ensures.least

pub judge_statement-returns-in-While-clause-walk : goal.judge_statement-returns-in-While-clause-walk
judge_statement-returns-in-While-clause-walk t c =
    let seen : seen_statement c.args.statement.now
    ≡ g.while_do c.in-While.test.head (seen_expr c.in-While.test.test) c.in-While.test.end
    (seen_statement c.get-in-While-2.result.now) =
    ap seen_statement c.in-While.is ∙ seen-while c.in-While.test c.in-While.body
    ∙ ap (λ x. g.while_do c.in-While.test.head (seen_expr c.in-While.test.test) c.in-While.test.end (seen_statement x))
    (sym c.get-in-While-2.ensures) in
    subst (λ x. IfOk c.judge_statement-in-While.result (λ j. j.walk ≡ x))
    (ap (λ x. after c.args.scope.now x (seen_statement c.get-in-While-2.result.now)) c.stepped-in-While.ensures
    ∙ ap (after c.args.scope.now c.args.walk) (sym seen)) c.judge_statement-in-While.ensures.walk

pub judge_statement-returns-in-While-clause-least : goal.judge_statement-returns-in-While-clause-least
judge_statement-returns-in-While-clause-least t c =
    let seen : seen_statement c.args.statement.now
    ≡ g.while_do c.get-in-While.result.now.head (seen_expr c.get-in-While.result.now.test) c.in-While.test.end
    (seen_statement c.get-in-While-2.result.now) =
    ap seen_statement c.in-While.is ∙ seen-while c.in-While.test c.in-While.body
    ∙ ap (λ x. g.while_do c.in-While.test.head (seen_expr c.in-While.test.test) c.in-While.test.end (seen_statement x))
    (sym c.get-in-While-2.ensures)
    ∙ ap (λ y. g.while_do y.head (seen_expr y.test) c.in-While.test.end (seen_statement c.get-in-While-2.result.now))
    (sym c.get-in-While.ensures) in
    subst (λ x. IfOk c.judge_statement-in-While.result (λ j. j.least ≡ x))
    (ap (λ x. least c.judge_test-so_far-in-While.result
    (statement_faults c.args.scope.now x (seen_statement c.get-in-While-2.result.now))) c.stepped-in-While.ensures
    ∙ while-least c.args.scope.now c.args.walk c.args.walk c.get-in-While.result.now.head c.in-While.test.end
    (seen_expr c.get-in-While.result.now.test) (seen_statement c.get-in-While-2.result.now) c.args.so_far
    c.judge_test-so_far-in-While.result
    c.judge_test-so_far-in-While.ensures
    ∙ ap (λ x. least c.args.so_far (statement_faults c.args.scope.now c.args.walk x)) (sym seen))
    c.judge_statement-in-While.ensures.least

pub judge_statement-returns-in_ok-judged-in-For-clause-walk :
    goal.judge_statement-returns-in_ok-judged-in-For-clause-walk
judge_statement-returns-in_ok-judged-in-For-clause-walk t c =
    let seen : seen_statement c.args.statement.now
    ≡ g.for_do c.in-For.head.head c.in-For.head.at c.in-For.head.name c.in-For.head.set_at
    (seen_expr c.in-For.head.from) (seen_direction c.in-For.head.direction) (seen_expr c.in-For.head.to)
    (seen_step c.in-For.head.step) c.in-For.head.do_at
    (seen_statement c.get-in-For.result.now) =
    ap seen_statement c.in-For.is ∙ seen-for c.in-For.head c.in-For.body
    ∙ ap (λ x. g.for_do c.in-For.head.head c.in-For.head.at c.in-For.head.name c.in-For.head.set_at
    (seen_expr c.in-For.head.from) (seen_direction c.in-For.head.direction) (seen_expr c.in-For.head.to)
    (seen_step c.in-For.head.step) c.in-For.head.do_at
    (seen_statement x)) (sym c.get-in-For.ensures) in
    c.stepped-in-For-2.ensures
    ∙ ap next_walk (c.in_ok-judged-in-For.ensures.walk
    ∙ ap (λ x. after c.args.scope.now x (seen_statement c.get-in-For.result.now))
    (c.stepped-inside.ensures ∙ ap next_walk c.stepped-in-For.ensures))
    ∙ ap (after c.args.scope.now c.args.walk) (sym seen)

pub judge_statement-returns-in_ok-judged-in-For-clause-least :
    goal.judge_statement-returns-in_ok-judged-in-For-clause-least
judge_statement-returns-in_ok-judged-in-For-clause-least t c =
    let inside : c.stepped-inside.result ≡ next_walk (next_walk c.args.walk) =
    c.stepped-inside.ensures ∙ ap next_walk c.stepped-in-For.ensures in
    let seen : seen_statement c.args.statement.now
    ≡ g.for_do c.get-head.result.now.head c.get-head.result.now.at c.get-head.result.now.name
    c.get-head.result.now.set_at (seen_expr c.get-head.result.now.from)
    (seen_direction c.get-head.result.now.direction) (seen_expr c.get-head.result.now.to)
    (seen_step c.get-head.result.now.step) c.get-head.result.now.do_at (seen_statement c.get-in-For.result.now) =
    ap seen_statement c.in-For.is ∙ seen-for c.in-For.head c.in-For.body
    ∙ ap (λ x. g.for_do c.in-For.head.head c.in-For.head.at c.in-For.head.name c.in-For.head.set_at
    (seen_expr c.in-For.head.from) (seen_direction c.in-For.head.direction) (seen_expr c.in-For.head.to)
    (seen_step c.in-For.head.step) c.in-For.head.do_at
    (seen_statement x)) (sym c.get-in-For.ensures)
    ∙ ap (λ y. g.for_do y.head y.at y.name y.set_at (seen_expr y.from) (seen_direction y.direction) (seen_expr y.to)
    (seen_step y.step) y.do_at (seen_statement c.get-in-For.result.now)) (sym c.get-head.ensures) in
    c.judge_number.ensures
    ∙ for-least c.args.scope.now c.args.walk c.in_ok-judged-in-For.judged.walk c.get-head.result.now.head
    c.get-head.result.now.at c.get-head.result.now.set_at c.get-head.result.now.do_at c.get-head.result.now.name
    (seen_expr c.get-head.result.now.from) (seen_direction c.get-head.result.now.direction)
    (seen_expr c.get-head.result.now.to) (seen_step c.get-head.result.now.step)
    (seen_statement c.get-in-For.result.now) c.args.so_far c.judge_for_head-so_far.result
    c.in_ok-judged-in-For.judged.least
    (c.in_ok-judged-in-For.ensures.walk ∙ ap (λ x. after c.args.scope.now x (seen_statement c.get-in-For.result.now))
    inside)
    c.judge_for_head-so_far.ensures
    (c.in_ok-judged-in-For.ensures.least ∙ ap
    (λ x. least c.judge_for_head-so_far.result
    (statement_faults c.args.scope.now x (seen_statement c.get-in-For.result.now))) inside)
    ∙ ap (λ x. least c.args.so_far (statement_faults c.args.scope.now c.args.walk x)) (sym seen)

pub judge_statement-returns-in_ok-judged-in-DoUntil-clause-walk :
    goal.judge_statement-returns-in_ok-judged-in-DoUntil-clause-walk
judge_statement-returns-in_ok-judged-in-DoUntil-clause-walk t c =
    let seen : seen_statement c.args.statement.now
    ≡ g.do_until c.in-DoUntil.until.head (seen_statement c.get-in-DoUntil.result.now) c.in-DoUntil.until.at
    (seen_expr c.in-DoUntil.until.test) =
    ap seen_statement c.in-DoUntil.is ∙ seen-do c.in-DoUntil.body c.in-DoUntil.until
    ∙ ap (λ x. g.do_until c.in-DoUntil.until.head (seen_statement x) c.in-DoUntil.until.at
    (seen_expr c.in-DoUntil.until.test)) (sym c.get-in-DoUntil.ensures) in
    c.stepped-in-DoUntil.ensures
    ∙ ap next_walk (c.in_ok-judged-in-DoUntil.ensures.walk
    ∙ ap (λ x. after c.args.scope.now x (seen_statement c.get-in-DoUntil.result.now)) c.inside_do.ensures)
    ∙ ap (after c.args.scope.now c.args.walk) (sym seen)

pub judge_statement-returns-in_ok-judged-in-DoUntil-clause-least :
    goal.judge_statement-returns-in_ok-judged-in-DoUntil-clause-least
judge_statement-returns-in_ok-judged-in-DoUntil-clause-least t c =
    let seen : seen_statement c.args.statement.now
    ≡ g.do_until c.get-in-DoUntil-2.result.now.head (seen_statement c.get-in-DoUntil.result.now)
    c.in-DoUntil.until.at (seen_expr c.get-in-DoUntil-2.result.now.test) =
    ap seen_statement c.in-DoUntil.is ∙ seen-do c.in-DoUntil.body c.in-DoUntil.until
    ∙ ap (λ x. g.do_until c.in-DoUntil.until.head (seen_statement x) c.in-DoUntil.until.at
    (seen_expr c.in-DoUntil.until.test)) (sym c.get-in-DoUntil.ensures)
    ∙ ap (λ y. g.do_until y.head (seen_statement c.get-in-DoUntil.result.now) c.in-DoUntil.until.at
    (seen_expr y.test)) (sym c.get-in-DoUntil-2.ensures) in
    c.judge_until.ensures
    ∙ do-least c.args.scope.now c.args.walk c.in_ok-judged-in-DoUntil.judged.walk c.get-in-DoUntil-2.result.now.head
    c.in-DoUntil.until.at (seen_statement c.get-in-DoUntil.result.now) (seen_expr c.get-in-DoUntil-2.result.now.test)
    c.args.so_far c.in_ok-judged-in-DoUntil.judged.least
    (c.in_ok-judged-in-DoUntil.ensures.walk
    ∙ ap (λ x. after c.args.scope.now x (seen_statement c.get-in-DoUntil.result.now)) c.inside_do.ensures)
    (c.in_ok-judged-in-DoUntil.ensures.least
    ∙ ap (λ x. least c.args.so_far (statement_faults c.args.scope.now x (seen_statement c.get-in-DoUntil.result.now)))
    c.inside_do.ensures)
    ∙ ap (λ x. least c.args.so_far (statement_faults c.args.scope.now c.args.walk x)) (sym seen)
