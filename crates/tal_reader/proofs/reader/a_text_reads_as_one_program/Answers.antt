use Rattle.tal_reader.proofs.Reading.{one-program}
use Rattle.tal_reader.proofs.reader.a_text_reads_as_one_program.Goals as goal

pub returns : goal.returns
returns c = one-program
