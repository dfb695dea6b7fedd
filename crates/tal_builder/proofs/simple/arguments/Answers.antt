use Rattle.std.proofs.Common.{◌≡◌, ◌-◌, suc, Some, sym, ap, ◌∙◌, arith, subst}
use Rattle.tal_syntax.specs.Seen.{seen_arguments}
use Rattle.tal_builder.specs.PlainTokens.{plain_of}
use Rattle.tal_builder.specs.declared.plain_token.PlainToken.TheVariants as plain
use Rattle.tal_builder.specs.Outcome.{Tells}
use Rattle.tal_builder.specs.Parse.{arguments_at, arguments_after, listed_in, listed_at}
use Rattle.tal_builder.proofs.simple.arguments.Goals as goal

pub returns : goal.returns
returns c =
    let next : c.args.room ≡ suc (c.args.room - 1) = omega (arith, c.if-room-eq0.false) in
    let start : plain_of plain.Open c.args.tokens.now ≡ Some (c.in-Some.start, c.in-Some.after.now) =
    c.in-Some.ensures in
    let whole : arguments_at c.args.room c.args.tokens.now
    ≡ listed_at (c.args.room - 1) c.in-Some.start c.in-Some.after.now =
    ap (arguments_after c.args.room c.args.tokens.now) start
    ∙ ap (λ n. listed_in n c.in-Some.start c.in-Some.after.now) next in
    subst (λ found. Tells (λ r. (seen_arguments r.0, r.1.now)) c.listed.result found) (sym whole) c.listed.ensures
