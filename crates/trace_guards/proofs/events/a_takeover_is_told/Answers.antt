use Rattle.std.proofs.Common.{refl}
use Rattle.std.specs.Int.{int_wrap}
use denote.Hole.Carrier.{shown, out}
use Rattle.tal_tree.specs.declared.statement.What.{out-What}
use Rattle.tal_tree.specs.declared.statement.What.TheBlock.{shown-the_row-Statement-0}
use Rattle.trace_guards.proofs.events.a_takeover_is_told.Goals as goal

pub returns-clause-stops : goal.returns-clause-stops
unfolding out-What shown-the_row-Statement-0 shown out int_wrap
returns-clause-stops c = refl

pub returns-clause-takes_over : goal.returns-clause-takes_over
unfolding out-What shown-the_row-Statement-0 shown out int_wrap
returns-clause-takes_over c = refl

pub returns-clause-second : goal.returns-clause-second
unfolding out-What shown-the_row-Statement-0 shown out int_wrap
returns-clause-second c = refl

pub returns-clause-quiet : goal.returns-clause-quiet
unfolding out-What shown-the_row-Statement-0 shown out int_wrap
returns-clause-quiet c = refl

pub returns-clause-misses : goal.returns-clause-misses
unfolding out-What shown-the_row-Statement-0 shown out int_wrap
returns-clause-misses c = refl

pub returns-clause-asks_again : goal.returns-clause-asks_again
unfolding out-What shown-the_row-Statement-0 shown out int_wrap
returns-clause-asks_again c = refl
