use Rattle.deck_forms.proofs.Tellable.{deck-tellable}
use Rattle.deck_forms.proofs.laws.a_deck_is_tellable.Goals as goal

pub returns : goal.returns
returns c = deck-tellable
