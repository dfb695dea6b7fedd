use Rattle.told_reports.proofs.ReadBack.{report-read}
use Rattle.told_reports.proofs.laws.a_report_is_read_back.Goals as goal

pub returns : goal.returns
returns c = report-read
