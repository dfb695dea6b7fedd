use Rattle.report_laws.proofs.OneVerdict.{one-verdict}
use Rattle.report_laws.proofs.laws.a_report_has_one_verdict.Goals as goal

pub returns : goal.returns
returns c = one-verdict
