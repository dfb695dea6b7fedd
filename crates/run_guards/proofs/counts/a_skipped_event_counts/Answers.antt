use Rattle.run_guards.proofs.Played.{entered}
use Rattle.run_guards.proofs.counts.a_skipped_event_counts.Goals as goal

pub returns : goal.returns
returns c = entered
