use Rattle.message_layout.proofs.Again.{written-again}
use Rattle.message_layout.proofs.laws.written_words_are_read.Goals as goal

pub returns : goal.returns
returns c = written-again
