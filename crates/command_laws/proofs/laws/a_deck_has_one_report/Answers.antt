use Rattle.command_laws.proofs.OneDue.{one-report}
use Rattle.command_laws.proofs.laws.a_deck_has_one_report.Goals as goal

pub returns : goal.returns
returns c = one-report
