use Rattle.reported_runs.proofs.Judged.{run-judged}
use Rattle.reported_runs.proofs.laws.a_run_and_its_report_are_verified.Goals as goal

pub returns : goal.returns
returns c = run-judged
