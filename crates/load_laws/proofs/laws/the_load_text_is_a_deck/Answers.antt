use Rattle.load_laws.proofs.Accepted.{load-accepted}
use Rattle.load_laws.proofs.Decked.{load-decks}
use Rattle.load_laws.proofs.laws.the_load_text_is_a_deck.Goals as goal

pub returns : goal.returns
returns c = record { deck = load-decks; accepted = load-accepted }
