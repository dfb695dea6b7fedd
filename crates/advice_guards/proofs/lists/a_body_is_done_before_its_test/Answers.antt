use Rattle.std.proofs.Common.{[], ◌∷◌, refl}
use denote.Hole.Carrier.{shown, out}
use Rattle.tal_tree.specs.declared.statement.What.{out-What}
use Rattle.tal_tree.specs.declared.statement.What.TheBlock.{shown-the_row-Statement-0}
use Rattle.advice_guards.specs.Programs.{until}
use Rattle.advice_guards.proofs.All.{until-all}
use Rattle.advice_guards.proofs.Listed.{items-are}
use Rattle.advice_guards.proofs.Stands.{until_stands, until_ways}
use Rattle.advice_guards.proofs.lists.a_body_is_done_before_its_test.Goals as goal

pub returns-clause-inside : goal.returns-clause-inside
unfolding out-What shown-the_row-Statement-0 shown out
returns-clause-inside c =
    items-are until until_stands until_ways until-all 2 ((0, 1 ∷ []) ∷ (1, 1 ∷ 2 ∷ 3 ∷ 4 ∷ []) ∷ []) refl refl

pub returns-clause-behind : goal.returns-clause-behind
unfolding out-What shown-the_row-Statement-0 shown out
returns-clause-behind c =
    items-are until until_stands until_ways until-all 5 ((1, 1 ∷ 2 ∷ 3 ∷ 4 ∷ []) ∷ []) refl refl
