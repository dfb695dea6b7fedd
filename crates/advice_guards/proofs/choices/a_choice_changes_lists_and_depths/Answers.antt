use Rattle.std.proofs.Common.{refl}
use denote.Hole.Carrier.{shown, out}
use Rattle.tal_tree.specs.declared.statement.What.{out-What}
use Rattle.tal_tree.specs.declared.statement.What.TheBlock.{shown-the_row-Statement-0}
use Rattle.advice_guards.proofs.choices.a_choice_changes_lists_and_depths.Goals as goal

pub returns-clause-chosen : goal.returns-clause-chosen
unfolding out-What shown-the_row-Statement-0 shown out
returns-clause-chosen c = refl

pub returns-clause-own : goal.returns-clause-own
unfolding out-What shown-the_row-Statement-0 shown out
returns-clause-own c = refl

pub returns-clause-deep : goal.returns-clause-deep
unfolding out-What shown-the_row-Statement-0 shown out
returns-clause-deep c = refl
