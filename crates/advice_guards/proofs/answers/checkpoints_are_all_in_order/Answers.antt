use Rattle.std.proofs.Common.{refl}
use denote.Hole.Carrier.{shown, out}
use Rattle.tal_tree.specs.declared.statement.What.{out-What}
use Rattle.tal_tree.specs.declared.statement.What.TheBlock.{shown-the_row-Statement-0}
use Rattle.advice_guards.proofs.answers.checkpoints_are_all_in_order.Goals as goal

pub returns-clause-nested : goal.returns-clause-nested
unfolding out-What shown-the_row-Statement-0 shown out
returns-clause-nested c = refl

pub returns-clause-several : goal.returns-clause-several
unfolding out-What shown-the_row-Statement-0 shown out
returns-clause-several c = refl
