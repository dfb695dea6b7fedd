use Rattle.reported_runs.proofs.Reports.{written-reported}
use Rattle.reported_runs.proofs.laws.what_a_run_writes_is_reported.Goals as goal

pub returns : goal.returns
returns c = written-reported
