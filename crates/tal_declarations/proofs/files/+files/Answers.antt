use Rattle.std.proofs.Common.{◌≡◌, OnOk, refl, sym, ap, subst, ◌∙◌}
use Rattle.tal_syntax.specs.Grammar as g
use Rattle.tal_syntax.specs.declared.statement.Next.{Next}
use Rattle.tal_syntax.specs.Seen.{seen_expr, seen_direction, seen_step, seen_statement, seen_otherwise, seen_row}
use Rattle.tal_syntax.proofs.SeenSteps.{seen-block, seen-if, seen-while, seen-for, seen-do, seen-else}
use Rattle.tal_declarations.specs.Files.{statement_files, else_files, row_files}
use Rattle.tal_names.proofs.Turns.{turn_after}
use Rattle.tal_declarations.proofs.files.+files.Goals as goal

pub else_files-returns-in-Else : goal.else_files-returns-in-Else
else_files-returns-in-Else t c =
    let seen : seen_otherwise c.args.otherwise.now ≡ g.otherwise c.in-Else.field-0 (seen_statement c.in-Else.body) =
    ap seen_otherwise c.in-Else.is ∙ seen-else c.in-Else.field-0 c.in-Else.body in
    rw (seen, ← c.get.ensures) c.statement_files.ensures

pub row_files-loop-next-preserved : goal.row_files-loop-next-preserved
row_files-loop-next-preserved t c =
    turn_after (λ f ns. row_files c.args.scope.now f (seen_row ns))
    (λ f (n : Next). statement_files c.args.scope.now f (seen_statement n.statement)) (λ f n ns. refl)
    c.args.more.now c.loop-next.next-index c.next-item.result c.loop-next.files c.statement_files.new.files _
    c.next-item.is c.loop-next-test.true c.in_ok-statement_files.ensures c.loop-next.invariant

pub statement_files-returns-in_ok-statement_files-in-Block : goal.statement_files-returns-in_ok-statement_files-in-Block
statement_files-returns-in_ok-statement_files-in-Block t c =
    let seen : seen_statement c.args.statement.now
    ≡ g.block c.in-Block.field-0 (seen_statement c.in-Block.first) (seen_row c.in-Block.more) c.in-Block.field-3 =
    ap seen_statement c.in-Block.is ∙ seen-block c.in-Block.field-0 c.in-Block.first c.in-Block.more
    c.in-Block.field-3 in
    let whole : row_files c.args.scope.now c.statement_files.new.files (seen_row c.as_slice.result.now)
    ≡ statement_files c.args.scope.now c.args.files.now (seen_statement c.args.statement.now) =
    ap (λ f. row_files c.args.scope.now f (seen_row c.as_slice.result.now))
    (c.in_ok-statement_files-in-Block.ensures
    ∙ ap (λ x. statement_files c.args.scope.now c.args.files.now (seen_statement x)) c.get.ensures)
    ∙ ap (λ ns. row_files c.args.scope.now (statement_files c.args.scope.now c.args.files.now
    (seen_statement c.in-Block.first)) (seen_row ns)) c.as_slice.ensures
    ∙ ap (statement_files c.args.scope.now c.args.files.now) (sym seen) in
    subst (λ f. OnOk c.row_files.result (c.row_files.new.files ≡ f)) whole c.row_files.ensures

pub statement_files-returns-in_ok-statement_files-in-If : goal.statement_files-returns-in_ok-statement_files-in-If
statement_files-returns-in_ok-statement_files-in-If t c =
    let seen : seen_statement c.args.statement.now
    ≡ g.if_then c.in-If.field-0.head (seen_expr c.in-If.field-0.test) c.in-If.field-0.end (seen_statement c.in-If.body)
    (seen_otherwise c.in-If.otherwise) =
    ap seen_statement c.in-If.is ∙ seen-if c.in-If.field-0 c.in-If.body c.in-If.otherwise in
    let whole : else_files c.args.scope.now c.statement_files-in-If.new.files (seen_otherwise c.in-If.otherwise)
    ≡ statement_files c.args.scope.now c.args.files.now (seen_statement c.args.statement.now) =
    ap (λ f. else_files c.args.scope.now f (seen_otherwise c.in-If.otherwise))
    (c.in_ok-statement_files-in-If.ensures ∙ ap
    (λ x. statement_files c.args.scope.now c.args.files.now (seen_statement x)) c.get-in-If.ensures)
    ∙ ap (statement_files c.args.scope.now c.args.files.now) (sym seen) in
    subst (λ f. OnOk c.else_files.result (c.else_files.new.files ≡ f)) whole c.else_files.ensures

pub statement_files-returns-in-While : goal.statement_files-returns-in-While
statement_files-returns-in-While t c =
    let seen : seen_statement c.args.statement.now
    ≡ g.while_do c.in-While.field-0.head (seen_expr c.in-While.field-0.test) c.in-While.field-0.end
    (seen_statement c.in-While.body) =
    ap seen_statement c.in-While.is ∙ seen-while c.in-While.field-0 c.in-While.body in
    rw (seen, ← c.get-in-While.ensures) c.statement_files-in-While.ensures

pub statement_files-returns-in-For : goal.statement_files-returns-in-For
statement_files-returns-in-For t c =
    let seen : seen_statement c.args.statement.now
    ≡ g.for_do c.in-For.field-0.head c.in-For.field-0.at c.in-For.field-0.name c.in-For.field-0.set_at
    (seen_expr c.in-For.field-0.from) (seen_direction c.in-For.field-0.direction) (seen_expr c.in-For.field-0.to)
    (seen_step c.in-For.field-0.step) c.in-For.field-0.do_at (seen_statement c.in-For.body) =
    ap seen_statement c.in-For.is ∙ seen-for c.in-For.field-0 c.in-For.body in
    rw (seen, ← c.get-in-For.ensures) c.statement_files-in-For.ensures

pub statement_files-returns-in-DoUntil : goal.statement_files-returns-in-DoUntil
statement_files-returns-in-DoUntil t c =
    let seen : seen_statement c.args.statement.now
    ≡ g.do_until c.in-DoUntil.field-1.head (seen_statement c.in-DoUntil.body) c.in-DoUntil.field-1.at
    (seen_expr c.in-DoUntil.field-1.test) =
    ap seen_statement c.in-DoUntil.is ∙ seen-do c.in-DoUntil.body c.in-DoUntil.field-1 in
    rw (seen, ← c.get-in-DoUntil.ensures) c.statement_files-in-DoUntil.ensures
