use Rattle.std.proofs.Common.{◌≡◌, ◌-◌, ◌+◌, suc, true, length, Some, None, refl, sym, ap, ◌∙◌, arith, subst}
use Rattle.tal_syntax.specs.Grammar as g
use Rattle.tal_syntax.specs.Seen.{link_row, seen_statement, seen_expr, seen_direction, seen_step, seen_row}
use Rattle.tal_syntax.specs.Seen.{seen_otherwise}
use Rattle.tal_builder.specs.PlainTokens.{plain_of}
use Rattle.tal_builder.specs.declared.plain_token.PlainToken.TheVariants as plain
use Rattle.tal_builder.specs.Parse.{statement_at, begun_by}
use Rattle.tal_builder.proofs.Turns.{ends, turns}
use Rattle.tal_syntax.specs.declared.statement.Test.{Test}
use Rattle.tal_syntax.specs.declared.statement.ForHead.{ForHead}
use Rattle.tal_syntax.specs.declared.statement.Until.{Until}
use Rattle.tal_syntax.proofs.SeenSteps.{seen-else}
use Rattle.tal_builder.specs.Outcome.{Tells}
use Rattle.std.specs.Prelude.{cond}
use Rattle.tal_builder.specs.First.{is_begun}
use Rattle.tal_builder.proofs.Steps.{block-found, otherwise-found, if-found, while-found, for-found, do-found}
use Rattle.tal_builder.proofs.statement.+statement.Goals as goal

pub row-returns-in_default : goal.row-returns-in_default
row-returns-in_default t c =
    let none : plain_of plain.Semicolon c.loop-turn.rest.now ≡ None = rw c.in_default.is at c.optional.ensures in
    sym c.loop-turn.invariant
    ∙ ends link_row g.no_row g.more_row (plain_of plain.Semicolon) (statement_at c.args.room) c.loop-turn.all
    (length c.args.tokens.now - c.loop-turn._turn) c.loop-turn.rest.now none

pub row-loop-turn-preserved : goal.row-loop-turn-preserved
row-loop-turn-preserved t c =
    let count : length c.args.tokens.now - c.loop-turn._turn
    ≡ suc (length c.args.tokens.now - (c.loop-turn._turn + 1)) = omega (arith, c.loop-turn-test.true) in
    let sign : plain_of plain.Semicolon c.loop-turn.rest.now ≡ Some (c.in-Some.semicolon, c.in-Some.after.now) =
    c.in-Some.ensures in
    let part : (statement_at c.args.room) c.in-Some.after.now
    ≡ Some (seen_statement c.in_ok-statement.statement, c.in_ok-statement.after.now) = c.in_ok-statement.ensures in
    rw c.in_ok-add_statement.ensures
    (sym (turns link_row g.no_row g.more_row (plain_of plain.Semicolon) (statement_at c.args.room) c.loop-turn.all _ _
    c.loop-turn.rest.now c.in-Some.after.now c.in_ok-statement.after.now
    c.in-Some.semicolon (seen_statement c.in_ok-statement.statement)
    (record { semicolon = c.in-Some.semicolon; statement = c.in_ok-statement.statement }) count sign part
    (λ r. refl)) ∙ c.loop-turn.invariant)

pub block-returns : goal.block-returns
block-returns t c =
    block-found (statement_at c.args.room) c.args.begin c.in_ok-end.end c.args.tokens.now c.in_ok-first.after.now
    c.in_ok-more.after.now c.in_ok-end.rest.now
    (seen_statement c.in_ok-first.first) (seen_row c.in_ok-more.more) c.in_ok-first.ensures c.in_ok-more.ensures
    c.in_ok-end.ensures
    ∙ ap (λ s. Some (s, c.in_ok-end.rest.now)) (sym c.in_ok-statement.ensures)

pub otherwise-returns : goal.otherwise-returns
otherwise-returns t c =
    otherwise-found (statement_at c.args.room) c.in-Some.at c.args.tokens.now c.in-Some.after.now
    c.in_ok-inner.rest.now (seen_statement c.in_ok-inner.inner)
    c.in-Some.ensures c.in_ok-inner.ensures
    ∙ ap (λ o. Some (o, c.in_ok-inner.rest.now)) (sym (seen-else c.in-Some.at c.in_ok-inner.inner))

pub if_then-returns : goal.if_then-returns
if_then-returns t c =
    if-found (statement_at c.args.room) c.args.room c.args.head c.in_ok-end.end c.args.tokens.now
    c.in_ok-test.after.now c.in_ok-end.after.now c.in_ok-inner.after.now c.in_ok-otherwise.rest.now
    (seen_expr c.in_ok-test.test) (seen_statement c.in_ok-inner.inner) (seen_otherwise c.in_ok-otherwise.otherwise)
    c.in_ok-test.ensures c.in_ok-end.ensures c.in_ok-inner.ensures c.in_ok-otherwise.ensures
    ∙ ap (λ s. Some (s, c.in_ok-otherwise.rest.now))
    (ap (λ (t : Test). g.if_then t.head (seen_expr t.test) t.end (seen_statement c.in_ok-inner.inner)
    (seen_otherwise c.in_ok-otherwise.otherwise)) (sym c.in_ok-test-2.ensures)
    ∙ sym c.in_ok-statement.ensures)

pub while_loop-returns : goal.while_loop-returns
while_loop-returns t c =
    while-found (statement_at c.args.room) c.args.room c.args.head c.in_ok-end.end c.args.tokens.now
    c.in_ok-test.after.now c.in_ok-end.after.now c.in_ok-inner.rest.now
    (seen_expr c.in_ok-test.test) (seen_statement c.in_ok-inner.inner)
    c.in_ok-test.ensures c.in_ok-end.ensures c.in_ok-inner.ensures
    ∙ ap (λ s. Some (s, c.in_ok-inner.rest.now))
    (ap (λ (t : Test). g.while_do t.head (seen_expr t.test) t.end (seen_statement c.in_ok-inner.inner))
    (sym c.in_ok-test-2.ensures)
    ∙ sym c.in_ok-statement.ensures)

pub for_loop-returns : goal.for_loop-returns
for_loop-returns t c =
    for-found (statement_at c.args.room) c.args.room c.args.head c.in-Some.named.at c.in-Some.named.name
    c.in_ok-set_at.set_at c.in_ok-do_at.do_at
    c.args.tokens.now c.in-Some.after.now c.in_ok-set_at.after.now c.in_ok-from.after.now
    c.in_ok-direction.after.now c.in_ok-to.after.now c.in-Some-step.after.now c.in_ok-do_at.after.now
    c.in_ok-inner.rest.now (seen_expr c.in_ok-from.from) (seen_direction c.in_ok-direction.direction)
    (seen_expr c.in_ok-to.to) (seen_step c.in-Some-step.step) (seen_statement c.in_ok-inner.inner)
    c.in-Some.ensures c.in_ok-set_at.ensures c.in_ok-from.ensures c.in_ok-direction.ensures c.in_ok-to.ensures
    c.in-Some-step.ensures c.in_ok-do_at.ensures c.in_ok-inner.ensures
    ∙ ap (λ s. Some (s, c.in_ok-inner.rest.now))
    (ap (λ (f : ForHead). g.for_do f.head f.at f.name f.set_at (seen_expr f.from) (seen_direction f.direction)
    (seen_expr f.to) (seen_step f.step) f.do_at (seen_statement c.in_ok-inner.inner)) (sym c.in_ok-counted.ensures)
    ∙ sym c.in_ok-statement.ensures)

pub do_loop-returns : goal.do_loop-returns
do_loop-returns t c =
    do-found (statement_at c.args.room) c.args.room c.args.head c.in_ok-at.at c.args.tokens.now
    c.in_ok-inner.after.now c.in_ok-at.after.now c.in_ok-test.rest.now
    (seen_statement c.in_ok-inner.inner) (seen_expr c.in_ok-test.test)
    c.in_ok-inner.ensures c.in_ok-at.ensures c.in_ok-test.ensures
    ∙ ap (λ s. Some (s, c.in_ok-test.rest.now))
    (ap (λ (u : Until). g.do_until u.head (seen_statement c.in_ok-inner.inner) u.at (seen_expr u.test))
    (sym c.in_ok-until.ensures)
    ∙ sym c.in_ok-statement.ensures)

pub statement-returns : goal.statement-returns
statement-returns t c =
    let next : suc (c.args.room - 1) ≡ c.args.room = omega (arith, c.if-room-eq0.false) in
    let begins : is_begun c.args.tokens.now ≡ true = sym c.is_begun.ensures ∙ c.if-not-is_begun.false in
    subst (λ n. Tells (λ r. (seen_statement r.0, r.1.now)) c.begun.result (statement_at n c.args.tokens.now)) next
    (subst (λ b. Tells (λ r. (seen_statement r.0, r.1.now)) c.begun.result
    (cond b (begun_by (statement_at (c.args.room - 1)) (c.args.room - 1) c.args.tokens.now)
    (Some (g.nothing, c.args.tokens.now))))
    (sym begins) c.begun.ensures)

pub begun-returns-in-For : goal.begun-returns-in-For
begun-returns-in-For t c = rw (c.in-Some.ensures.cases.0, c.in-For.is) c.for_loop.ensures
