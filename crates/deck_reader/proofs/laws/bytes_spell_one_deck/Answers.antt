use Rattle.deck_reader.proofs.OneAnswer.{one_deck}
use Rattle.deck_reader.proofs.laws.bytes_spell_one_deck.Goals as goal

pub returns : goal.returns
returns c = one_deck
