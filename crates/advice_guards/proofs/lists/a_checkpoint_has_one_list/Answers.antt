use Rattle.std.proofs.Common.{[], ◌∷◌, refl}
use denote.Hole.Carrier.{shown, out}
use Rattle.tal_tree.specs.declared.statement.What.{out-What}
use Rattle.tal_tree.specs.declared.statement.What.TheBlock.{shown-the_row-Statement-0}
use Rattle.advice_guards.specs.Programs.{shared}
use Rattle.advice_guards.proofs.All.{shared-all}
use Rattle.advice_guards.proofs.Listed.{items-are}
use Rattle.advice_guards.proofs.Stands.{shared_stands, shared_ways}
use Rattle.advice_guards.proofs.lists.a_checkpoint_has_one_list.Goals as goal

pub returns : goal.returns
unfolding out-What shown-the_row-Statement-0 shown out
returns c = items-are shared shared_stands shared_ways shared-all 1
    ((0, 2 ∷ 3 ∷ []) ∷ (1, 2 ∷ 3 ∷ 1 ∷ 4 ∷ 5 ∷ []) ∷ []) refl refl
