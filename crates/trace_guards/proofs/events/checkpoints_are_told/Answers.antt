use Rattle.std.proofs.Common.{refl}
use Rattle.std.specs.Int.{int_wrap}
use denote.Hole.Carrier.{shown, out}
use Rattle.tal_tree.specs.declared.statement.What.{out-What}
use Rattle.tal_tree.specs.declared.statement.What.TheBlock.{shown-the_row-Statement-0}
use Rattle.trace_guards.proofs.events.checkpoints_are_told.Goals as goal

pub returns-clause-taken : goal.returns-clause-taken
unfolding out-What shown-the_row-Statement-0 shown out int_wrap
returns-clause-taken c = refl

pub returns-clause-next : goal.returns-clause-next
unfolding out-What shown-the_row-Statement-0 shown out int_wrap
returns-clause-next c = refl

pub returns-clause-not_next : goal.returns-clause-not_next
unfolding out-What shown-the_row-Statement-0 shown out int_wrap
returns-clause-not_next c = refl

pub returns-clause-other_era : goal.returns-clause-other_era
unfolding out-What shown-the_row-Statement-0 shown out int_wrap
returns-clause-other_era c = refl

pub returns-clause-acts : goal.returns-clause-acts
unfolding out-What shown-the_row-Statement-0 shown out int_wrap
returns-clause-acts c = refl

pub returns-clause-not_sent : goal.returns-clause-not_sent
unfolding out-What shown-the_row-Statement-0 shown out int_wrap
returns-clause-not_sent c = refl
