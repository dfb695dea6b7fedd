use Rattle.deck_reader.proofs.OneAnswer.{no_deck}
use Rattle.deck_reader.proofs.laws.what_is_refused_spells_no_deck.Goals as goal

pub returns : goal.returns
returns c = no_deck
