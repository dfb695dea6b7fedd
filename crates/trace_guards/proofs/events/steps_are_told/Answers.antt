use Rattle.std.proofs.Common.{refl}
use Rattle.std.specs.Int.{int_wrap}
use denote.Hole.Carrier.{shown, out}
use Rattle.tal_tree.specs.declared.statement.What.{out-What}
use Rattle.tal_tree.specs.declared.statement.What.TheBlock.{shown-the_row-Statement-0}
use Rattle.trace_guards.proofs.events.steps_are_told.Goals as goal

pub returns-clause-first : goal.returns-clause-first
unfolding out-What shown-the_row-Statement-0 shown out int_wrap
returns-clause-first c = refl

pub returns-clause-takes : goal.returns-clause-takes
unfolding out-What shown-the_row-Statement-0 shown out int_wrap
returns-clause-takes c = refl

pub returns-clause-adds : goal.returns-clause-adds
unfolding out-What shown-the_row-Statement-0 shown out int_wrap
returns-clause-adds c = refl

pub returns-clause-sends : goal.returns-clause-sends
unfolding out-What shown-the_row-Statement-0 shown out int_wrap
returns-clause-sends c = refl

pub returns-clause-passes : goal.returns-clause-passes
unfolding out-What shown-the_row-Statement-0 shown out int_wrap
returns-clause-passes c = refl

pub returns-clause-still : goal.returns-clause-still
unfolding out-What shown-the_row-Statement-0 shown out int_wrap
returns-clause-still c = refl
