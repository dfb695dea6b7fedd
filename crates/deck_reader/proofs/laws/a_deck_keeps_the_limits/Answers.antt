use Rattle.deck_reader.proofs.DeckLimits.{deck_within}
use Rattle.deck_reader.proofs.laws.a_deck_keeps_the_limits.Goals as goal

pub returns : goal.returns
returns c = deck_within
