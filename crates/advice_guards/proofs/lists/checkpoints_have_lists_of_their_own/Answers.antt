use Rattle.std.proofs.Common.{[], ◌∷◌, refl}
use denote.Hole.Carrier.{shown, out}
use Rattle.tal_tree.specs.declared.statement.What.{out-What}
use Rattle.tal_tree.specs.declared.statement.What.TheBlock.{shown-the_row-Statement-0}
use Rattle.advice_guards.specs.Programs.{two_lists}
use Rattle.advice_guards.proofs.All.{two_lists-all}
use Rattle.advice_guards.proofs.Listed.{items-are}
use Rattle.advice_guards.proofs.Stands.{two_stands, two_ways}
use Rattle.advice_guards.proofs.lists.checkpoints_have_lists_of_their_own.Goals as goal

pub returns-clause-first : goal.returns-clause-first
unfolding out-What shown-the_row-Statement-0 shown out
returns-clause-first c = items-are two_lists two_stands two_ways two_lists-all 2 ((0, 1 ∷ []) ∷ []) refl refl

pub returns-clause-second : goal.returns-clause-second
unfolding out-What shown-the_row-Statement-0 shown out
returns-clause-second c = items-are two_lists two_stands two_ways two_lists-all 3 [] refl refl

pub returns-clause-third : goal.returns-clause-third
unfolding out-What shown-the_row-Statement-0 shown out
returns-clause-third c =
    items-are two_lists two_stands two_ways two_lists-all 5 ((1, 1 ∷ 2 ∷ 3 ∷ 4 ∷ []) ∷ []) refl refl

pub returns-clause-none : goal.returns-clause-none
unfolding out-What shown-the_row-Statement-0 shown out
returns-clause-none c = items-are two_lists two_stands two_ways two_lists-all 1 [] refl refl
