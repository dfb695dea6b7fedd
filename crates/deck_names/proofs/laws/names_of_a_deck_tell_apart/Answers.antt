use Rattle.deck_names.proofs.DeckNames.{names-apart}
use Rattle.deck_names.proofs.laws.names_of_a_deck_tell_apart.Goals as goal

pub returns : goal.returns
returns c = names-apart
