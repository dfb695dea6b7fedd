use Rattle.std.proofs.Common.{drop}
use Rattle.std.specs.Prelude.{Option}
use Rattle.process_semantics.specs.Rests.{rests}
use Rattle.discipline.specs.declared.find.Found.{Found}
use Rattle.discipline.specs.Finding.{IsFoundIn}
use Rattle.discipline.proofs.find.+find.Given as goal

abbrev pub invariant-find-loop-k : goal.invariant-find-loop-k
invariant-find-loop-k l = (result : Option Found) → IsFoundIn (rests (drop l.k l.statements)) l.after l.number result
    → IsFoundIn (rests l.statements) l.after l.number result
