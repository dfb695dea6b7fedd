use Rattle.deck_reader.proofs.DeckPrograms.{deck_programs}
use Rattle.deck_reader.proofs.laws.a_deck_reads_its_programs.Goals as goal

pub returns : goal.returns
returns c = deck_programs
