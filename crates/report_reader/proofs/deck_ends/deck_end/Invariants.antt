use Rattle.std.proofs.Common.{length}
use Rattle.report_reader.proofs.ReadLemmas.{IsSoughtTo}
use Rattle.report_reader.proofs.deck_ends.deck_end.Given as goal

-- the line END is sought so far
abbrev pub invariant-loop-line : goal.invariant-loop-line
invariant-loop-line l = IsSoughtTo l.bytes l.rest l.inside

abbrev pub decreases-loop-line : goal.decreases-loop-line
decreases-loop-line l = length l.rest
