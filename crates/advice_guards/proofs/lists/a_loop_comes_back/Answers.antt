use Rattle.std.proofs.Common.{[], ◌∷◌, refl}
use denote.Hole.Carrier.{shown, out}
use Rattle.tal_tree.specs.declared.statement.What.{out-What}
use Rattle.tal_tree.specs.declared.statement.What.TheBlock.{shown-the_row-Statement-0}
use Rattle.advice_guards.specs.Programs.{again}
use Rattle.advice_guards.proofs.All.{again-all}
use Rattle.advice_guards.proofs.Listed.{items-are}
use Rattle.advice_guards.proofs.Stands.{again_stands, again_ways}
use Rattle.advice_guards.proofs.lists.a_loop_comes_back.Goals as goal

pub returns : goal.returns
unfolding out-What shown-the_row-Statement-0 shown out
returns c = items-are again again_stands again_ways again-all 2 ((0, 1 ∷ 2 ∷ 3 ∷ 1 ∷ []) ∷ []) refl refl
