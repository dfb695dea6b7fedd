use Rattle.command_laws.proofs.OneDue.{deck-advised}
use Rattle.command_laws.proofs.laws.a_deck_has_advice_or_a_cause.Goals as goal

pub returns : goal.returns
returns c = deck-advised
