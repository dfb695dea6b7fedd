use Rattle.sweep_guards.proofs.Counted.{has-two}
use Rattle.sweep_guards.proofs.runs.a_sweep_has_the_row_of_each_processor.Goals as goal

pub returns : goal.returns
returns c = has-two
