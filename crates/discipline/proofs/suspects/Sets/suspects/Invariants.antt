use Rattle.discipline.specs.Suspects.{AreFoundBefore}
use Rattle.discipline.proofs.suspects.Sets.suspects.Given as goal

abbrev pub invariant-loop-k : goal.invariant-loop-k
invariant-loop-k l = AreFoundBefore l.flow l.self.sets.items l.found l.k
