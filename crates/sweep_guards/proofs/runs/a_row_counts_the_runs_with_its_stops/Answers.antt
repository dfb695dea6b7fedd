use Rattle.sweep_guards.proofs.Counted.{counts-none, counts-two}
use Rattle.sweep_guards.proofs.runs.a_row_counts_the_runs_with_its_stops.Goals as goal

pub returns-clause-none : goal.returns-clause-none
returns-clause-none c = counts-none

pub returns-clause-two : goal.returns-clause-two
returns-clause-two c = counts-two
