use Rattle.deck_grammar.proofs.Law.{one_spelt}
use Rattle.deck_grammar.proofs.laws.the_grammar_spells_one_deck.Goals as goal

pub returns : goal.returns
returns c = one_spelt
