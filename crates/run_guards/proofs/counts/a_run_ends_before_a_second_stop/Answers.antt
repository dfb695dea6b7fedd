use Rattle.run_guards.proofs.Played.{second}
use Rattle.run_guards.proofs.counts.a_run_ends_before_a_second_stop.Goals as goal

pub returns : goal.returns
returns c = second
