use Rattle.std.proofs.Common.{[], ◌∷◌, refl}
use denote.Hole.Carrier.{shown, out}
use Rattle.tal_tree.specs.declared.statement.What.{out-What}
use Rattle.tal_tree.specs.declared.statement.What.TheBlock.{shown-the_row-Statement-0}
use Rattle.advice_guards.specs.Programs.{branching}
use Rattle.advice_guards.proofs.All.{branching-all}
use Rattle.advice_guards.proofs.Listed.{items-are}
use Rattle.advice_guards.proofs.Stands.{branching_stands, branching_ways}
use Rattle.advice_guards.proofs.lists.branches_come_together.Goals as goal

pub returns : goal.returns
unfolding out-What shown-the_row-Statement-0 shown out
returns c = items-are branching branching_stands branching_ways branching-all 4
    ((0, 1 ∷ 2 ∷ []) ∷ (1, 1 ∷ 3 ∷ []) ∷ []) refl refl
