use Rattle.std.proofs.Common.{[], ◌∷◌, refl}
use denote.Hole.Carrier.{shown, out}
use Rattle.tal_tree.specs.declared.statement.What.{out-What}
use Rattle.tal_tree.specs.declared.statement.What.TheBlock.{shown-the_row-Statement-0}
use Rattle.advice_guards.specs.Programs.{asking_once}
use Rattle.advice_guards.proofs.All.{asking_once-all}
use Rattle.advice_guards.proofs.Listed.{items-are, files-are}
use Rattle.advice_guards.proofs.Stands.{once_stands, three_ways}
use Rattle.advice_guards.proofs.lists.an_ask_is_due.Goals as goal

pub returns-clause-items : goal.returns-clause-items
unfolding out-What shown-the_row-Statement-0 shown out
returns-clause-items c =
    items-are asking_once once_stands three_ways asking_once-all 2 ((5, 1 ∷ []) ∷ (6, 1 ∷ []) ∷ []) refl refl

pub returns-clause-files : goal.returns-clause-files
unfolding out-What shown-the_row-Statement-0 shown out
returns-clause-files c = files-are asking_once once_stands three_ways asking_once-all 2 ((1, 1 ∷ []) ∷ []) refl refl
