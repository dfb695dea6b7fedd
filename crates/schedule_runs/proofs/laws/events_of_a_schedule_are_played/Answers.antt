use Rattle.schedule_runs.proofs.Played.{played}
use Rattle.schedule_runs.proofs.laws.events_of_a_schedule_are_played.Goals as goal

pub returns : goal.returns
returns c = λ site lines stop events agenda s plays. played {lines = lines} {stop = stop} plays
