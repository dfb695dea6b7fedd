use Rattle.std.proofs.Common.{◌≡◌, ◌-◌, length}
use Rattle.tal_syntax.specs.Grammar as g
use Rattle.tal_syntax.specs.Seen.{link_names}
use Rattle.tal_builder.specs.PlainTokens.{plain_of}
use Rattle.tal_builder.specs.declared.plain_token.PlainToken.TheVariants as plain
use Rattle.tal_builder.specs.First.{name_of}
use Rattle.tal_builder.specs.Parse.{rest_by, link_name, names_at}
use Rattle.tal_builder.proofs.Turns.{onto}
use Rattle.tal_builder.proofs.heading.more_names.Given as goal

-- the links so far and those of the tokens that are left are the whole chain
abbrev pub invariant-loop-turn : goal.invariant-loop-turn
invariant-loop-turn l = onto link_names l.all
    (rest_by g.no_names link_name (plain_of plain.Comma) name_of (length l.tokens - l._turn) l.rest) ≡ names_at l.tokens
