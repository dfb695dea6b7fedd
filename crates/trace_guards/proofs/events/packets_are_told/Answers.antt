use Rattle.std.proofs.Common.{refl}
use Rattle.std.specs.Int.{int_wrap}
use denote.Hole.Carrier.{shown, out}
use Rattle.tal_tree.specs.declared.statement.What.{out-What}
use Rattle.tal_tree.specs.declared.statement.What.TheBlock.{shown-the_row-Statement-0}
use Rattle.trace_guards.proofs.events.packets_are_told.Goals as goal

pub returns-clause-whole : goal.returns-clause-whole
unfolding out-What shown-the_row-Statement-0 shown out int_wrap
returns-clause-whole c = refl

pub returns-clause-refused : goal.returns-clause-refused
unfolding out-What shown-the_row-Statement-0 shown out int_wrap
returns-clause-refused c = refl

pub returns-clause-dropped : goal.returns-clause-dropped
unfolding out-What shown-the_row-Statement-0 shown out int_wrap
returns-clause-dropped c = refl

pub returns-clause-comes : goal.returns-clause-comes
unfolding out-What shown-the_row-Statement-0 shown out int_wrap
returns-clause-comes c = refl

pub returns-clause-again : goal.returns-clause-again
unfolding out-What shown-the_row-Statement-0 shown out int_wrap
returns-clause-again c = refl

pub returns-clause-lost : goal.returns-clause-lost
unfolding out-What shown-the_row-Statement-0 shown out int_wrap
returns-clause-lost c = refl

pub returns-clause-repeated : goal.returns-clause-repeated
unfolding out-What shown-the_row-Statement-0 shown out int_wrap
returns-clause-repeated c = refl
