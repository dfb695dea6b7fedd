use Rattle.command_laws.proofs.Commands.{deck-checked}
use Rattle.command_laws.proofs.laws.an_accepted_deck_is_checked.Goals as goal

pub returns : goal.returns
returns c = deck-checked
