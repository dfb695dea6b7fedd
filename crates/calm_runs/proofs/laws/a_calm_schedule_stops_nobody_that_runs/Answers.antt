use Rattle.calm_runs.proofs.Calm.{goes-on-running}
use Rattle.calm_runs.proofs.laws.a_calm_schedule_stops_nobody_that_runs.Goals as goal

pub returns : goal.returns
returns c = goes-on-running
