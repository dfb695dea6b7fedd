use Rattle.value_traps.proofs.Lacks.{cell-ok, none-trap, trap-none, truth-ok, value-ok}
use Rattle.value_traps.proofs.laws.a_trap_is_met_where_no_value_is.Goals as goal

pub returns-clause-value : goal.returns-clause-value
returns-clause-value c = value-ok

pub returns-clause-cell : goal.returns-clause-cell
returns-clause-cell c = cell-ok

pub returns-clause-truth : goal.returns-clause-truth
returns-clause-truth c = truth-ok

pub returns-clause-trap : goal.returns-clause-trap
returns-clause-trap c = trap-none

pub returns-clause-none : goal.returns-clause-none
returns-clause-none c = none-trap
