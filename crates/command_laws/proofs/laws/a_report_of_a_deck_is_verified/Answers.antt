use Rattle.command_laws.proofs.Verifies.{report-verified}
use Rattle.command_laws.proofs.laws.a_report_of_a_deck_is_verified.Goals as goal

pub returns : goal.returns
returns c = report-verified
