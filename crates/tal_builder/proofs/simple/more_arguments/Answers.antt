use Rattle.std.proofs.Common.{◌≡◌, ◌-◌, ◌+◌, suc, length, Some, None, refl, sym, ◌∙◌, arith}
use Rattle.tal_syntax.specs.Grammar as g
use Rattle.tal_syntax.specs.Seen.{link_further, seen_argument}
use Rattle.tal_builder.specs.PlainTokens.{plain_of}
use Rattle.tal_builder.specs.declared.plain_token.PlainToken.TheVariants as plain
use Rattle.tal_builder.specs.Parse.{argument_at}
use Rattle.tal_builder.proofs.Turns.{ends, turns}
use Rattle.tal_builder.proofs.simple.more_arguments.Goals as goal

pub returns-in_default : goal.returns-in_default
returns-in_default c =
    let none : plain_of plain.Comma c.loop-turn.rest.now ≡ None = rw c.in_default.is at c.optional.ensures in
    sym c.loop-turn.invariant
    ∙ ends link_further g.no_further g.more_further (plain_of plain.Comma) (argument_at c.args.room) c.loop-turn.all
    (length c.args.tokens.now - c.loop-turn._turn) c.loop-turn.rest.now none

pub loop-turn-preserved : goal.loop-turn-preserved
loop-turn-preserved c =
    let count : length c.args.tokens.now - c.loop-turn._turn
    ≡ suc (length c.args.tokens.now - (c.loop-turn._turn + 1)) = omega (arith, c.loop-turn-test.true) in
    let sign : plain_of plain.Comma c.loop-turn.rest.now ≡ Some (c.in-Some.comma, c.in-Some.after.now) =
    c.in-Some.ensures in
    let part : (argument_at c.args.room) c.in-Some.after.now
    ≡ Some (seen_argument c.in_ok-argument.argument, c.in_ok-argument.after.now) = c.in_ok-argument.ensures in
    rw c.in_ok-push.ensures.ok
    (sym (turns link_further g.no_further g.more_further (plain_of plain.Comma) (argument_at c.args.room)
    c.loop-turn.all _ _ c.loop-turn.rest.now c.in-Some.after.now c.in_ok-argument.after.now
    c.in-Some.comma (seen_argument c.in_ok-argument.argument)
    (record { comma = c.in-Some.comma; argument = c.in_ok-argument.argument }) count sign part (λ r. refl))
    ∙ c.loop-turn.invariant)
