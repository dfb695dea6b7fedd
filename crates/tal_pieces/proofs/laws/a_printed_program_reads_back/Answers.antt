use Rattle.tal_pieces.proofs.Texts.ReadsAgain.{reads_again}
use Rattle.tal_pieces.proofs.laws.a_printed_program_reads_back.Goals as goal

pub returns : goal.returns
returns c = reads_again
