use Rattle.std.proofs.Common.{◌≡◌, ◌-◌, ◌+◌, suc, length, Some, None, refl, sym, ◌∙◌, arith}
use Rattle.tal_syntax.specs.Grammar as g
use Rattle.tal_syntax.specs.Seen.{link_values, seen_expr}
use Rattle.tal_builder.specs.PlainTokens.{plain_of}
use Rattle.tal_builder.specs.declared.plain_token.PlainToken.TheVariants as plain
use Rattle.tal_builder.specs.Parse.{expr_at}
use Rattle.tal_builder.proofs.Turns.{ends, turns}
use Rattle.tal_builder.proofs.simple.more_values.Goals as goal

pub returns-in_default : goal.returns-in_default
returns-in_default c =
    let none : plain_of plain.Comma c.loop-turn.rest.now ≡ None = rw c.in_default.is at c.optional.ensures in
    sym c.loop-turn.invariant
    ∙ ends link_values g.no_values g.more_values (plain_of plain.Comma) (expr_at c.args.room) c.loop-turn.all
    (length c.args.tokens.now - c.loop-turn._turn) c.loop-turn.rest.now none

pub loop-turn-preserved : goal.loop-turn-preserved
loop-turn-preserved c =
    let count : length c.args.tokens.now - c.loop-turn._turn
    ≡ suc (length c.args.tokens.now - (c.loop-turn._turn + 1)) = omega (arith, c.loop-turn-test.true) in
    let sign : plain_of plain.Comma c.loop-turn.rest.now ≡ Some (c.in-Some.comma, c.in-Some.after.now) =
    c.in-Some.ensures in
    let part : (expr_at c.args.room) c.in-Some.after.now
    ≡ Some (seen_expr c.in_ok-value.value, c.in_ok-value.after.now) = c.in_ok-value.ensures in
    rw (c.in_ok-push.ensures.ok, c.into_inner-value.ensures)
    (sym (turns link_values g.no_values g.more_values (plain_of plain.Comma) (expr_at c.args.room) c.loop-turn.all _ _
    c.loop-turn.rest.now c.in-Some.after.now c.in_ok-value.after.now
    c.in-Some.comma (seen_expr c.in_ok-value.value) (record { comma = c.in-Some.comma; value = c.in_ok-value.value })
    count sign part (λ r. refl)) ∙ c.loop-turn.invariant)
