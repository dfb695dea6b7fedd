use Rattle.std.proofs.Common.{nat_eq, not}
use Rattle.deck_lines.proofs.CutLemmas.{IsCutFrom}
use Rattle.deck_lines.proofs.lines.after_spaces.Given as goal

abbrev pub invariant-loop-at : goal.invariant-loop-at
invariant-loop-at l = IsCutFrom (λ c. not (nat_eq c 32)) l.line l.at
