use Rattle.std.proofs.Common.{◌≡◌, true, false}
use Rattle.break_guards.proofs.judging.an_act_has_its_turn.Goals as goal

pub returns-clause-own : goal.returns-clause-own
returns-clause-own c = λ turn. no turn
  where
    no : true ≡ false → ⊥
    no e = cc
