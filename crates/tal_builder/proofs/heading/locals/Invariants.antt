use Rattle.std.proofs.Common.{◌≡◌, ◌-◌, length}
use Rattle.tal_syntax.specs.Grammar as g
use Rattle.tal_syntax.specs.Seen.{link_locals}
use Rattle.tal_builder.specs.First.{is_local}
use Rattle.tal_builder.specs.Parse.{row_by, local_at, locals_at}
use Rattle.tal_builder.proofs.Turns.{onto}
use Rattle.tal_builder.proofs.heading.locals.Given as goal

-- the links so far and those of the tokens that are left are the whole chain
abbrev pub invariant-loop-turn : goal.invariant-loop-turn
invariant-loop-turn l = onto link_locals l.all
    (row_by g.no_locals g.more_locals is_local local_at (length l.tokens - l._turn) l.rest) ≡ locals_at l.tokens
