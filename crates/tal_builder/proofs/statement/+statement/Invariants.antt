use Rattle.std.proofs.Common.{◌≡◌, ◌+◌, ◌*◌, ◌-◌, length}
use Rattle.tal_syntax.specs.Grammar as g
use Rattle.tal_syntax.specs.Seen.{link_row}
use Rattle.tal_builder.specs.PlainTokens.{plain_of}
use Rattle.tal_builder.specs.declared.plain_token.PlainToken.TheVariants as plain
use Rattle.tal_builder.specs.Parse.{rest_by, row_at, statement_at}
use Rattle.tal_builder.proofs.Turns.{onto}
use Rattle.tal_builder.proofs.statement.+statement.Given as goal

abbrev pub decreases-statement : goal.decreases-statement
decreases-statement l = 4 * l.room

abbrev pub decreases-row : goal.decreases-row
decreases-row l = 4 * l.room + 1

abbrev pub decreases-begun : goal.decreases-begun
decreases-begun l = 4 * l.room + 3

abbrev pub decreases-block : goal.decreases-block
decreases-block l = 4 * l.room + 2

abbrev pub decreases-otherwise : goal.decreases-otherwise
decreases-otherwise l = 4 * l.room + 1

abbrev pub decreases-if_then : goal.decreases-if_then
decreases-if_then l = 4 * l.room + 2

abbrev pub decreases-while_loop : goal.decreases-while_loop
decreases-while_loop l = 4 * l.room + 2

abbrev pub decreases-for_loop : goal.decreases-for_loop
decreases-for_loop l = 4 * l.room + 2

abbrev pub decreases-do_loop : goal.decreases-do_loop
decreases-do_loop l = 4 * l.room + 2

-- the links so far and those of the tokens that are left are the whole chain
abbrev pub invariant-row-loop-turn : goal.invariant-row-loop-turn
invariant-row-loop-turn l = onto link_row l.all
    (rest_by g.no_row g.more_row (plain_of plain.Semicolon) (statement_at l.room) (length l.tokens - l._turn) l.rest)
    ≡ row_at l.room l.tokens
