use Rattle.bounded_runs.proofs.Runs.{run-moment}
use Rattle.bounded_runs.proofs.laws.a_run_is_played_to_a_moment.Goals as goal

pub returns : goal.returns
returns c = run-moment
