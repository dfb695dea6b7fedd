use Rattle.std.proofs.Common.{◌≡◌, ◌-◌, length}
use Rattle.tal_syntax.specs.Grammar as g
use Rattle.tal_syntax.specs.Seen.{link_values}
use Rattle.tal_builder.specs.PlainTokens.{plain_of}
use Rattle.tal_builder.specs.declared.plain_token.PlainToken.TheVariants as plain
use Rattle.tal_builder.specs.Parse.{rest_by, expr_at, values_at}
use Rattle.tal_builder.proofs.Turns.{onto}
use Rattle.tal_builder.proofs.simple.more_values.Given as goal

-- the links so far and those of the tokens that are left are the whole chain
abbrev pub invariant-loop-turn : goal.invariant-loop-turn
invariant-loop-turn l = onto link_values l.all
    (rest_by g.no_values g.more_values (plain_of plain.Comma) (expr_at l.room) (length l.tokens - l._turn) l.rest)
    ≡ values_at l.room l.tokens
