use Rattle.std.proofs.Common.{◌≡◌, ◌-◌, length}
use Rattle.tal_syntax.specs.Grammar as g
use Rattle.tal_syntax.specs.Seen.{link_procedures}
use Rattle.tal_builder.specs.First.{is_heading}
use Rattle.tal_builder.specs.Parse.{row_by, procedure_at, procedures_at}
use Rattle.tal_builder.proofs.Turns.{onto}
use Rattle.tal_builder.proofs.text.procedures.Given as goal

-- the links so far and those of the tokens that are left are the whole chain
abbrev pub invariant-loop-turn : goal.invariant-loop-turn
invariant-loop-turn l = onto link_procedures l.all
    (row_by g.no_procedures g.more_procedures is_heading procedure_at (length l.tokens - l._turn) l.rest)
    ≡ procedures_at l.tokens
