use Rattle.std.proofs.Common.{◌≡◌, ◌-◌, length}
use Rattle.tal_syntax.specs.Grammar as g
use Rattle.tal_syntax.specs.Seen.{link_lines}
use Rattle.tal_builder.specs.First.{is_line}
use Rattle.tal_builder.specs.Parse.{row_by, line_at, lines_at}
use Rattle.tal_builder.proofs.Turns.{onto}
use Rattle.tal_builder.proofs.globals.globals.Given as goal

-- the links so far and those of the tokens that are left are the whole chain
abbrev pub invariant-loop-turn : goal.invariant-loop-turn
invariant-loop-turn l = onto link_lines l.all
    (row_by g.no_lines g.more_lines is_line line_at (length l.tokens - l._turn) l.rest) ≡ lines_at l.tokens
