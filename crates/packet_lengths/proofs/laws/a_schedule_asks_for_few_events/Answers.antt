use Rattle.packet_lengths.proofs.Decks.{deck-asks, deck-few}
use Rattle.packet_lengths.proofs.laws.a_schedule_asks_for_few_events.Goals as goal

pub returns-clause-most : goal.returns-clause-most
returns-clause-most c = deck-asks

pub returns-clause-few : goal.returns-clause-few
returns-clause-few c = deck-few
