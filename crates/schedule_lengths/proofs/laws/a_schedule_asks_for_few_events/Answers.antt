use Rattle.std.proofs.Common.{arith}
use Rattle.schedule_lengths.proofs.Decks.{deck-asks, deck-few}
use Rattle.schedule_lengths.proofs.laws.a_schedule_asks_for_few_events.Goals as goal

pub returns-clause-most : goal.returns-clause-most
returns-clause-most c = deck-few

pub returns-clause-few : goal.returns-clause-few
returns-clause-few c = λ deck stop events agenda s within plays. let most =
    deck-few deck stop events agenda s within plays in omega (arith, most)

pub returns-clause-asks : goal.returns-clause-asks
returns-clause-asks c = λ deck stop within. let most = deck-asks deck stop within in omega (arith, most)
