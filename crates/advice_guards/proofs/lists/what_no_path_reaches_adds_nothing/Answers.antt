use Rattle.std.proofs.Common.{[], ◌∷◌, refl}
use denote.Hole.Carrier.{shown, out}
use Rattle.tal_tree.specs.declared.statement.What.{out-What}
use Rattle.tal_tree.specs.declared.statement.What.TheBlock.{shown-the_row-Statement-0}
use Rattle.advice_guards.specs.Programs.{unreached}
use Rattle.advice_guards.proofs.All.{unreached-all}
use Rattle.advice_guards.proofs.Listed.{items-are}
use Rattle.advice_guards.proofs.Stands.{unreached_stands, unreached_ways}
use Rattle.advice_guards.proofs.lists.what_no_path_reaches_adds_nothing.Goals as goal

pub returns-clause-reached : goal.returns-clause-reached
unfolding out-What shown-the_row-Statement-0 shown out
returns-clause-reached c =
    items-are unreached unreached_stands unreached_ways unreached-all 5 ((0, 1 ∷ 2 ∷ []) ∷ []) refl refl

pub returns-clause-unreached : goal.returns-clause-unreached
unfolding out-What shown-the_row-Statement-0 shown out
returns-clause-unreached c = items-are unreached unreached_stands unreached_ways unreached-all 7 [] refl refl
