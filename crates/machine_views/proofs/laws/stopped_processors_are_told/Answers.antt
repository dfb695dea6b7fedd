use Rattle.machine_views.proofs.Told.{stopped-is-told, stops-rise}
use Rattle.machine_views.proofs.laws.stopped_processors_are_told.Goals as goal

pub returns : goal.returns
returns c = record { told = stopped-is-told; rising = stops-rise }
