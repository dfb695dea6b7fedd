use Rattle.command_laws.proofs.Commands.{deck-run}
use Rattle.command_laws.proofs.laws.an_accepted_deck_is_run.Goals as goal

pub returns : goal.returns
returns c = deck-run
