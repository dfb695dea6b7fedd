use Rattle.played_laws.proofs.Leaving.{leaving-ends, leaving-holds, leaving-idle, leaving-played}
use Rattle.played_laws.proofs.guards.a_copy_that_ended_may_hold_acts.Goals as goal

pub returns : goal.returns
returns c = record { played = leaving-played; idle = leaving-idle; holds = leaving-holds; ended = leaving-ends }
