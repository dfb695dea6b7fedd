use Rattle.reported_runs.proofs.EndedDecks.{deck-first, report-last}
use Rattle.reported_runs.proofs.laws.a_report_follows_its_deck.Goals as goal

pub returns-clause-deck : goal.returns-clause-deck
returns-clause-deck c = deck-first

pub returns-clause-report : goal.returns-clause-report
returns-clause-report c = report-last
