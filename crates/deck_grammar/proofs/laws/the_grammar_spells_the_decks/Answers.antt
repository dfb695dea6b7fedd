use Rattle.deck_grammar.proofs.Law.{the_decks}
use Rattle.deck_grammar.proofs.laws.the_grammar_spells_the_decks.Goals as goal

pub returns : goal.returns
returns c = the_decks
