use Rattle.reported_runs.proofs.Verified.{run-verified}
use Rattle.reported_runs.proofs.laws.a_report_of_a_run_in_form_is_verified.Goals as goal

pub returns : goal.returns
returns c = run-verified
