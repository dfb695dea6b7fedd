use Rattle.reported_runs.proofs.Reports.{run-reported}
use Rattle.reported_runs.proofs.laws.a_report_of_a_run_is_reported.Goals as goal

pub returns : goal.returns
returns c = λ deck stop report is none end ended. run-reported deck stop report is none end ended
