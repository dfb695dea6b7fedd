use Rattle.std.proofs.Common.{◌≡◌, List, sym, ap, ◌++◌, ◌∙◌}
use Rattle.tal_syntax.specs.Grammar as g
use Rattle.tal_syntax.specs.Seen.{seen_expr, seen_direction, seen_step, seen_statement, seen_otherwise, seen_row}
use Rattle.tal_syntax.proofs.SeenSteps.{seen-block, seen-if, seen-while, seen-for, seen-do, seen-else}
use Rattle.tal_tree.specs.declared.statement.Statement.{Statement}
use Rattle.tal_tree.specs.declared.statement.What.TheVariants as what
use Rattle.tal_rules.specs.Statements.{next_walk, after, after_else}
use Rattle.tal_rules.proofs.StatementSteps.{block-walk, if-walk}
use Rattle.tal_meaning.specs.Expressions.{cond_of_expr}
use Rattle.tal_meaning.specs.Statements.{one, statements_of, else_statements}
use Rattle.tal_meaning.proofs.Built.{block-statements, if-statements, for-statements, do-statements}
use Rattle.tal_meaning.proofs.statement.+statement.Goals as goal

pub push_else-returns-in_ok-next-in-Else-clause-walk : goal.push_else-returns-in_ok-next-in-Else-clause-walk
push_else-returns-in_ok-next-in-Else-clause-walk t c =
    let seen : seen_otherwise c.args.otherwise.now ≡ g.otherwise c.in-Else.field-0 (seen_statement c.get.result.now) =
    ap seen_otherwise c.in-Else.is ∙ seen-else c.in-Else.field-0 c.in-Else.body
    ∙ ap (λ x. g.otherwise c.in-Else.field-0 (seen_statement x)) (sym c.get.ensures) in
    c.in_ok-next-in-Else.ensures.walk ∙ ap (after_else c.args.scope.now c.args.walk) (sym seen)

pub push_else-returns-in_ok-next-in-Else-clause-statements : goal.push_else-returns-in_ok-next-in-Else-clause-statements
push_else-returns-in_ok-next-in-Else-clause-statements t c =
    let seen : seen_otherwise c.args.otherwise.now ≡ g.otherwise c.in-Else.field-0 (seen_statement c.get.result.now) =
    ap seen_otherwise c.in-Else.is ∙ seen-else c.in-Else.field-0 c.in-Else.body
    ∙ ap (λ x. g.otherwise c.in-Else.field-0 (seen_statement x)) (sym c.get.ensures) in
    c.in_ok-next-in-Else.ensures.statements
    ∙ ap (λ x. c.args.all.now ++ else_statements c.args.scope.now c.args.walk x) (sym seen)

pub push_statement-returns-in_ok-next-in-Block-clause-walk : goal.push_statement-returns-in_ok-next-in-Block-clause-walk
push_statement-returns-in_ok-next-in-Block-clause-walk t c =
    let seen : seen_statement c.args.statement.now
    ≡ g.block c.in-Block.field-0 (seen_statement c.get.result.now) (seen_row c.as_slice.result.now)
    c.in-Block.field-3 =
    ap seen_statement c.in-Block.is ∙ seen-block c.in-Block.field-0 c.in-Block.first c.in-Block.more c.in-Block.field-3
    ∙ ap (λ x. g.block c.in-Block.field-0 (seen_statement x) (seen_row c.in-Block.more) c.in-Block.field-3)
    (sym c.get.ensures)
    ∙ ap (λ x. g.block c.in-Block.field-0 (seen_statement c.get.result.now) (seen_row x) c.in-Block.field-3)
    (sym c.as_slice.ensures) in
    c.in_ok-next-in-Block.ensures.walk
    ∙ block-walk c.args.scope.now c.args.walk c.in_ok-inside-in-Block.inside c.in-Block.field-0 c.in-Block.field-3
    (seen_statement c.get.result.now) (seen_row c.as_slice.result.now) c.in_ok-inside-in-Block.ensures.walk
    ∙ ap (after c.args.scope.now c.args.walk) (sym seen)

pub push_statement-returns-in_ok-next-in-Block-clause-statements :
    goal.push_statement-returns-in_ok-next-in-Block-clause-statements
push_statement-returns-in_ok-next-in-Block-clause-statements t c =
    let seen : seen_statement c.args.statement.now
    ≡ g.block c.in-Block.field-0 (seen_statement c.get.result.now) (seen_row c.as_slice.result.now)
    c.in-Block.field-3 =
    ap seen_statement c.in-Block.is ∙ seen-block c.in-Block.field-0 c.in-Block.first c.in-Block.more c.in-Block.field-3
    ∙ ap (λ x. g.block c.in-Block.field-0 (seen_statement x) (seen_row c.in-Block.more) c.in-Block.field-3)
    (sym c.get.ensures)
    ∙ ap (λ x. g.block c.in-Block.field-0 (seen_statement c.get.result.now) (seen_row x) c.in-Block.field-3)
    (sym c.as_slice.ensures) in
    block-statements c.args.scope.now c.args.walk c.in_ok-inside-in-Block.inside c.in-Block.field-0 c.in-Block.field-3
    (seen_statement c.get.result.now) (seen_row c.as_slice.result.now)
    c.args.all.now c.push_statement.new.all c.push_row.new.all c.in_ok-inside-in-Block.ensures.walk
    c.in_ok-inside-in-Block.ensures.statements c.in_ok-next-in-Block.ensures.statements
    ∙ ap (λ x. c.args.all.now ++ statements_of c.args.scope.now c.args.walk x) (sym seen)

pub push_statement-returns-in_ok-push_if-in-If-clause-walk : goal.push_statement-returns-in_ok-push_if-in-If-clause-walk
push_statement-returns-in_ok-push_if-in-If-clause-walk t c =
    let seen : seen_statement c.args.statement.now
    ≡ g.if_then c.in-If.test.head (seen_expr c.in-If.test.test) c.in-If.test.end
    (seen_statement c.get-in-If.result.now) (seen_otherwise c.in-If.otherwise) =
    ap seen_statement c.in-If.is ∙ seen-if c.in-If.test c.in-If.body c.in-If.otherwise
    ∙ ap (λ x. g.if_then c.in-If.test.head (seen_expr c.in-If.test.test) c.in-If.test.end (seen_statement x)
    (seen_otherwise c.in-If.otherwise)) (sym c.get-in-If.ensures) in
    c.in_ok-next-in-If.ensures.walk
    ∙ if-walk c.args.scope.now c.args.walk c.in_ok-inside-in-If.inside c.in-If.test.head c.in-If.test.end
    (seen_expr c.in-If.test.test) (seen_statement c.get-in-If.result.now) (seen_otherwise c.in-If.otherwise)
    (c.in_ok-inside-in-If.ensures.walk ∙ ap (λ x. after c.args.scope.now x (seen_statement c.get-in-If.result.now))
    c.stepped.ensures)
    ∙ ap (after c.args.scope.now c.args.walk) (sym seen)

pub push_statement-returns-in_ok-push_if-in-If-clause-statements :
    goal.push_statement-returns-in_ok-push_if-in-If-clause-statements
push_statement-returns-in_ok-push_if-in-If-clause-statements t c =
    let seen : seen_statement c.args.statement.now
    ≡ g.if_then c.get-in-If-2.result.now.head (seen_expr c.get-in-If-2.result.now.test) c.in-If.test.end
    (seen_statement c.get-in-If.result.now) (seen_otherwise c.in-If.otherwise) =
    ap seen_statement c.in-If.is ∙ seen-if c.in-If.test c.in-If.body c.in-If.otherwise
    ∙ ap (λ x. g.if_then c.in-If.test.head (seen_expr c.in-If.test.test) c.in-If.test.end (seen_statement x)
    (seen_otherwise c.in-If.otherwise)) (sym c.get-in-If.ensures)
    ∙ ap (λ y. g.if_then y.head (seen_expr y.test) c.in-If.test.end (seen_statement c.get-in-If.result.now)
    (seen_otherwise c.in-If.otherwise)) (sym c.get-in-If-2.ensures) in
    if-statements c.args.scope.now c.args.walk c.in_ok-inside-in-If.inside c.get-in-If-2.result.now.head
    c.in-If.test.end (seen_expr c.get-in-If-2.result.now.test) (seen_statement c.get-in-If.result.now)
    (seen_otherwise c.in-If.otherwise)
    c.args.all.now c.push_statement-in-If.new.all c.push_else.new.all c.push_if.new.all
    (c.in_ok-inside-in-If.ensures.walk ∙ ap (λ x. after c.args.scope.now x (seen_statement c.get-in-If.result.now))
    c.stepped.ensures)
    (c.in_ok-inside-in-If.ensures.statements
    ∙ ap (λ (l : List Statement). l ++ statements_of c.args.scope.now c.stepped.result
    (seen_statement c.get-in-If.result.now)) c.new-first.ensures
    ∙ ap (λ x. statements_of c.args.scope.now x (seen_statement c.get-in-If.result.now)) c.stepped.ensures)
    (c.in_ok-next-in-If.ensures.statements ∙ ap
    (λ (l : List Statement). l ++ else_statements c.args.scope.now c.in_ok-inside-in-If.inside
    (seen_otherwise c.in-If.otherwise)) c.new-second.ensures)
    c.in_ok-push_if-in-If.ensures
    ∙ ap (λ x. c.args.all.now ++ statements_of c.args.scope.now c.args.walk x) (sym seen)

pub push_statement-returns-in_ok-push_while-in-While-clause-walk :
    goal.push_statement-returns-in_ok-push_while-in-While-clause-walk
push_statement-returns-in_ok-push_while-in-While-clause-walk t c =
    let seen : seen_statement c.args.statement.now
    ≡ g.while_do c.in-While.test.head (seen_expr c.in-While.test.test) c.in-While.test.end
    (seen_statement c.get-in-While.result.now) =
    ap seen_statement c.in-While.is ∙ seen-while c.in-While.test c.in-While.body
    ∙ ap (λ x. g.while_do c.in-While.test.head (seen_expr c.in-While.test.test) c.in-While.test.end (seen_statement x))
    (sym c.get-in-While.ensures) in
    c.in_ok-next-in-While.ensures.walk
    ∙ ap (λ x. after c.args.scope.now x (seen_statement c.get-in-While.result.now)) c.stepped-in-While.ensures
    ∙ ap (after c.args.scope.now c.args.walk) (sym seen)

pub push_statement-returns-in_ok-push_while-in-While-clause-statements :
    goal.push_statement-returns-in_ok-push_while-in-While-clause-statements
push_statement-returns-in_ok-push_while-in-While-clause-statements t c =
    let seen : seen_statement c.args.statement.now
    ≡ g.while_do c.get-in-While-2.result.now.head (seen_expr c.get-in-While-2.result.now.test) c.in-While.test.end
    (seen_statement c.get-in-While.result.now) =
    ap seen_statement c.in-While.is ∙ seen-while c.in-While.test c.in-While.body
    ∙ ap (λ x. g.while_do c.in-While.test.head (seen_expr c.in-While.test.test) c.in-While.test.end (seen_statement x))
    (sym c.get-in-While.ensures)
    ∙ ap (λ y. g.while_do y.head (seen_expr y.test) c.in-While.test.end (seen_statement c.get-in-While.result.now))
    (sym c.get-in-While-2.ensures) in
    c.in_ok-push_while-in-While.ensures
    ∙ ap (λ (l : List Statement). c.args.all.now
    ++ one c.args.walk c.get-in-While-2.result.now.head
    (what.While (cond_of_expr c.args.scope.now (seen_expr c.get-in-While-2.result.now.test)) l))
    (c.in_ok-next-in-While.ensures.statements
    ∙ ap (λ (l : List Statement). l ++ statements_of c.args.scope.now c.stepped-in-While.result
    (seen_statement c.get-in-While.result.now)) c.new-inner.ensures
    ∙ ap (λ x. statements_of c.args.scope.now x (seen_statement c.get-in-While.result.now)) c.stepped-in-While.ensures)
    ∙ ap (λ x. c.args.all.now ++ statements_of c.args.scope.now c.args.walk x) (sym seen)

pub push_statement-returns-in_ok-push_for-in-For-clause-walk :
    goal.push_statement-returns-in_ok-push_for-in-For-clause-walk
push_statement-returns-in_ok-push_for-in-For-clause-walk t c =
    let seen : seen_statement c.args.statement.now
    ≡ g.for_do c.in-For.head.head c.in-For.head.at c.in-For.head.name c.in-For.head.set_at
    (seen_expr c.in-For.head.from) (seen_direction c.in-For.head.direction) (seen_expr c.in-For.head.to)
    (seen_step c.in-For.head.step) c.in-For.head.do_at
    (seen_statement c.get-in-For.result.now) =
    ap seen_statement c.in-For.is ∙ seen-for c.in-For.head c.in-For.body
    ∙ ap (λ x. g.for_do c.in-For.head.head c.in-For.head.at c.in-For.head.name c.in-For.head.set_at
    (seen_expr c.in-For.head.from) (seen_direction c.in-For.head.direction) (seen_expr c.in-For.head.to)
    (seen_step c.in-For.head.step) c.in-For.head.do_at
    (seen_statement x)) (sym c.get-in-For.ensures) in
    c.stepped-in-For-2.ensures
    ∙ ap next_walk (c.in_ok-last-in-For.ensures.walk
    ∙ ap (λ x. after c.args.scope.now x (seen_statement c.get-in-For.result.now))
    (c.stepped-inside.ensures ∙ ap next_walk c.stepped-in-For.ensures))
    ∙ ap (after c.args.scope.now c.args.walk) (sym seen)

pub push_statement-returns-in_ok-push_for-in-For-clause-statements :
    goal.push_statement-returns-in_ok-push_for-in-For-clause-statements
push_statement-returns-in_ok-push_for-in-For-clause-statements t c =
    let inside : c.stepped-inside.result ≡ next_walk (next_walk c.args.walk) =
    c.stepped-inside.ensures ∙ ap next_walk c.stepped-in-For.ensures in
    let seen : seen_statement c.args.statement.now
    ≡ g.for_do c.get-in-For-2.result.now.head c.get-in-For-2.result.now.at c.get-in-For-2.result.now.name
    c.get-in-For-2.result.now.set_at (seen_expr c.get-in-For-2.result.now.from)
    (seen_direction c.get-in-For-2.result.now.direction) (seen_expr c.get-in-For-2.result.now.to)
    (seen_step c.get-in-For-2.result.now.step) c.get-in-For-2.result.now.do_at
    (seen_statement c.get-in-For.result.now) =
    ap seen_statement c.in-For.is ∙ seen-for c.in-For.head c.in-For.body
    ∙ ap (λ x. g.for_do c.in-For.head.head c.in-For.head.at c.in-For.head.name c.in-For.head.set_at
    (seen_expr c.in-For.head.from) (seen_direction c.in-For.head.direction) (seen_expr c.in-For.head.to)
    (seen_step c.in-For.head.step) c.in-For.head.do_at
    (seen_statement x)) (sym c.get-in-For.ensures)
    ∙ ap (λ y. g.for_do y.head y.at y.name y.set_at (seen_expr y.from) (seen_direction y.direction) (seen_expr y.to)
    (seen_step y.step) y.do_at (seen_statement c.get-in-For.result.now)) (sym c.get-in-For-2.ensures) in
    for-statements c.args.scope.now c.args.walk c.in_ok-last-in-For.last c.get-in-For-2.result.now.head
    c.get-in-For-2.result.now.at c.get-in-For-2.result.now.set_at c.get-in-For-2.result.now.do_at
    c.get-in-For-2.result.now.name
    (seen_expr c.get-in-For-2.result.now.from) (seen_direction c.get-in-For-2.result.now.direction)
    (seen_expr c.get-in-For-2.result.now.to) (seen_step c.get-in-For-2.result.now.step)
    (seen_statement c.get-in-For.result.now) c.args.all.now c.push_statement-in-For.new.all c.push_for.new.all
    (c.in_ok-last-in-For.ensures.walk ∙ ap (λ x. after c.args.scope.now x (seen_statement c.get-in-For.result.now))
    inside)
    (c.in_ok-last-in-For.ensures.statements
    ∙ ap (λ (l : List Statement). l ++ statements_of c.args.scope.now c.stepped-inside.result
    (seen_statement c.get-in-For.result.now)) c.new-inner-in-For.ensures
    ∙ ap (λ x. statements_of c.args.scope.now x (seen_statement c.get-in-For.result.now)) inside)
    c.in_ok-push_for-in-For.ensures
    ∙ ap (λ x. c.args.all.now ++ statements_of c.args.scope.now c.args.walk x) (sym seen)

pub push_statement-returns-in_ok-push_do-in-DoUntil-clause-walk :
    goal.push_statement-returns-in_ok-push_do-in-DoUntil-clause-walk
push_statement-returns-in_ok-push_do-in-DoUntil-clause-walk t c =
    let seen : seen_statement c.args.statement.now
    ≡ g.do_until c.in-DoUntil.until.head (seen_statement c.get-in-DoUntil.result.now) c.in-DoUntil.until.at
    (seen_expr c.in-DoUntil.until.test) =
    ap seen_statement c.in-DoUntil.is ∙ seen-do c.in-DoUntil.body c.in-DoUntil.until
    ∙ ap (λ x. g.do_until c.in-DoUntil.until.head (seen_statement x) c.in-DoUntil.until.at
    (seen_expr c.in-DoUntil.until.test)) (sym c.get-in-DoUntil.ensures) in
    c.stepped-in-DoUntil.ensures
    ∙ ap next_walk (c.in_ok-last-in-DoUntil.ensures.walk
    ∙ ap (λ x. after c.args.scope.now x (seen_statement c.get-in-DoUntil.result.now)) c.inside_do.ensures)
    ∙ ap (after c.args.scope.now c.args.walk) (sym seen)

pub push_statement-returns-in_ok-push_do-in-DoUntil-clause-statements :
    goal.push_statement-returns-in_ok-push_do-in-DoUntil-clause-statements
push_statement-returns-in_ok-push_do-in-DoUntil-clause-statements t c =
    let seen : seen_statement c.args.statement.now
    ≡ g.do_until c.in-DoUntil.until.head (seen_statement c.get-in-DoUntil.result.now)
    c.get-in-DoUntil-2.result.now.at (seen_expr c.get-in-DoUntil-2.result.now.test) =
    ap seen_statement c.in-DoUntil.is ∙ seen-do c.in-DoUntil.body c.in-DoUntil.until
    ∙ ap (λ x. g.do_until c.in-DoUntil.until.head (seen_statement x) c.in-DoUntil.until.at
    (seen_expr c.in-DoUntil.until.test)) (sym c.get-in-DoUntil.ensures)
    ∙ ap (λ y. g.do_until c.in-DoUntil.until.head (seen_statement c.get-in-DoUntil.result.now) y.at
    (seen_expr y.test)) (sym c.get-in-DoUntil-2.ensures) in
    do-statements c.args.scope.now c.args.walk c.in_ok-last-in-DoUntil.last c.in-DoUntil.until.head
    c.get-in-DoUntil-2.result.now.at (seen_statement c.get-in-DoUntil.result.now)
    (seen_expr c.get-in-DoUntil-2.result.now.test) c.args.all.now c.push_statement-in-DoUntil.new.all
    c.push_do.new.all
    (c.in_ok-last-in-DoUntil.ensures.walk
    ∙ ap (λ x. after c.args.scope.now x (seen_statement c.get-in-DoUntil.result.now)) c.inside_do.ensures)
    (c.in_ok-last-in-DoUntil.ensures.statements
    ∙ ap (λ (l : List Statement). l ++ statements_of c.args.scope.now c.inside_do.result
    (seen_statement c.get-in-DoUntil.result.now)) c.new-inner-in-DoUntil.ensures
    ∙ ap (λ x. statements_of c.args.scope.now x (seen_statement c.get-in-DoUntil.result.now)) c.inside_do.ensures)
    c.in_ok-push_do-in-DoUntil.ensures
    ∙ ap (λ x. c.args.all.now ++ statements_of c.args.scope.now c.args.walk x) (sym seen)
