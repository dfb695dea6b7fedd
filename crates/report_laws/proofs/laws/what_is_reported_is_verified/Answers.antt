use Rattle.report_laws.proofs.OneVerdict.{verified}
use Rattle.report_laws.proofs.laws.what_is_reported_is_verified.Goals as goal

pub returns : goal.returns
returns c = verified
