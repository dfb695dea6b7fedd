use Rattle.std.proofs.Common.{[], ◌∷◌, refl}
use denote.Hole.Carrier.{shown, out}
use Rattle.tal_tree.specs.declared.statement.What.{out-What}
use Rattle.tal_tree.specs.declared.statement.What.TheBlock.{shown-the_row-Statement-0}
use Rattle.advice_guards.specs.Programs.{elements}
use Rattle.advice_guards.proofs.All.{elements-all}
use Rattle.advice_guards.proofs.Listed.{items-are}
use Rattle.advice_guards.proofs.Stands.{element_stands, three_ways}
use Rattle.advice_guards.proofs.lists.an_array_is_one_item.Goals as goal

pub returns : goal.returns
unfolding out-What shown-the_row-Statement-0 shown out
returns c = items-are elements element_stands three_ways elements-all 3 ((2, 1 ∷ 2 ∷ []) ∷ []) refl refl
