use Rattle.std.proofs.Common.{[], ◌∷◌, refl}
use denote.Hole.Carrier.{shown, out}
use Rattle.tal_tree.specs.declared.statement.What.{out-What}
use Rattle.tal_tree.specs.declared.statement.What.TheBlock.{shown-the_row-Statement-0}
use Rattle.advice_guards.specs.Programs.{calling, targeting}
use Rattle.advice_guards.proofs.All.{calling-all, targeting-all}
use Rattle.advice_guards.proofs.Listed.{items-are}
use Rattle.advice_guards.proofs.Stands.{calling_stands, four_ways, targeting_stands, three_ways}
use Rattle.advice_guards.proofs.lists.calls_add_what_they_change.Goals as goal

pub returns-clause-called : goal.returns-clause-called
unfolding out-What shown-the_row-Statement-0 shown out
returns-clause-called c =
    items-are calling calling_stands four_ways calling-all 4 ((0, 2 ∷ 3 ∷ 1 ∷ []) ∷ (1, 2 ∷ 3 ∷ 1 ∷ []) ∷ []) refl refl

pub returns-clause-inside : goal.returns-clause-inside
unfolding out-What shown-the_row-Statement-0 shown out
returns-clause-inside c = items-are targeting targeting_stands three_ways targeting-all 1 [] refl refl

pub returns-clause-target : goal.returns-clause-target
unfolding out-What shown-the_row-Statement-0 shown out
returns-clause-target c =
    items-are targeting targeting_stands three_ways targeting-all 3 ((0, 2 ∷ 1 ∷ []) ∷ []) refl refl
