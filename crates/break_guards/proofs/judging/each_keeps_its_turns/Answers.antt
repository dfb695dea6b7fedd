use Rattle.std.proofs.Common.{◌≡◌, List, [], ◌∷◌}
use Rattle.tal_tree.specs.declared.act.Act.{Act}
use Rattle.tal_tree.specs.declared.act.Act.TheVariants.{Step, Take, Print}
use Rattle.break_guards.proofs.judging.each_keeps_its_turns.Goals as goal

pub returns-clause-own : goal.returns-clause-own
returns-clause-own c =
    λ keeps. let same : (Step 0 ∷ Take 0 1 ∷ []) ≡ (Take 0 1 ∷ Step 0 ∷ []) = keeps (Step 0) in absurd (cc)

pub returns-clause-missing : goal.returns-clause-missing
returns-clause-missing c = λ keeps. let same : (Step 0 ∷ []) ≡ [] = keeps (Step 0) in absurd (cc)

pub returns-clause-added : goal.returns-clause-added
returns-clause-added c = λ keeps. let same : ◌≡◌ {A = List Act} [] (Print 0 ∷ []) = keeps (Print 0) in absurd (cc)
