use Rattle.deck_reader.proofs.DeckRequests.{deck_requests}
use Rattle.deck_reader.proofs.laws.requests_of_a_deck_are_short.Goals as goal

pub returns : goal.returns
returns c = deck_requests
