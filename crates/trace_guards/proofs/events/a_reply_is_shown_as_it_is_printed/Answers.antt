use Rattle.std.proofs.Common.{refl}
use Rattle.std.specs.Int.{int_wrap}
use denote.Hole.Carrier.{shown, out}
use Rattle.tal_tree.specs.declared.statement.What.{out-What}
use Rattle.tal_tree.specs.declared.statement.What.TheBlock.{shown-the_row-Statement-0}
use Rattle.trace_guards.proofs.events.a_reply_is_shown_as_it_is_printed.Goals as goal

pub returns-clause-printed : goal.returns-clause-printed
unfolding out-What shown-the_row-Statement-0 shown out int_wrap
returns-clause-printed c = refl

pub returns-clause-told : goal.returns-clause-told
unfolding out-What shown-the_row-Statement-0 shown out int_wrap
returns-clause-told c = refl

pub returns-clause-nothing : goal.returns-clause-nothing
unfolding out-What shown-the_row-Statement-0 shown out int_wrap
returns-clause-nothing c = refl
