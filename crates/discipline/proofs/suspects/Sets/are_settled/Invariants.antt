use Rattle.discipline.specs.Suspects.{IsSettled}
use Rattle.discipline.proofs.Settling.{Before}
use Rattle.discipline.proofs.suspects.Sets.are_settled.Given as goal

abbrev pub invariant-loop-k : goal.invariant-loop-k
invariant-loop-k l = Before (λ node here. IsSettled l.self.sets.items here node) l.flow l.self.sets.items l.k
