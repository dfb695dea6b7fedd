use Rattle.bounded_runs.proofs.Delivered.{round-delivers}
use Rattle.bounded_runs.proofs.laws.a_drain_round_of_a_run_delivers_all.Goals as goal

pub returns : goal.returns
returns c = round-delivers
