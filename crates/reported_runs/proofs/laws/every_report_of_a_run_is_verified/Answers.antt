use Rattle.reported_runs.proofs.InForm.{every-report-verified}
use Rattle.reported_runs.proofs.laws.every_report_of_a_run_is_verified.Goals as goal

pub returns : goal.returns
returns c = every-report-verified
