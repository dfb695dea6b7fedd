use Rattle.single_stops.proofs.Runs.{never-second}
use Rattle.single_stops.proofs.laws.one_stop_has_no_second.Goals as goal

pub returns : goal.returns
returns c = never-second
