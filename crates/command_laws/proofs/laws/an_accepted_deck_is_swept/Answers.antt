use Rattle.command_laws.proofs.Commands.{deck-swept}
use Rattle.command_laws.proofs.laws.an_accepted_deck_is_swept.Goals as goal

pub returns : goal.returns
returns c = deck-swept
