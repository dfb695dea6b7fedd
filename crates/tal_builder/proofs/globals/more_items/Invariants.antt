use Rattle.std.proofs.Common.{◌≡◌, ◌-◌, length}
use Rattle.tal_syntax.specs.Grammar as g
use Rattle.tal_syntax.specs.Seen.{link_items}
use Rattle.tal_builder.specs.PlainTokens.{plain_of}
use Rattle.tal_builder.specs.declared.plain_token.PlainToken.TheVariants as plain
use Rattle.tal_builder.specs.Parse.{rest_by, item_at, items_at}
use Rattle.tal_builder.proofs.Turns.{onto}
use Rattle.tal_builder.proofs.globals.more_items.Given as goal

-- the links so far and those of the tokens that are left are the whole chain
abbrev pub invariant-loop-turn : goal.invariant-loop-turn
invariant-loop-turn l = onto link_items l.all
    (rest_by g.no_items g.more_items (plain_of plain.Comma) item_at (length l.tokens - l._turn) l.rest)
    ≡ items_at l.tokens
