use Rattle.tal_reader.proofs.Reading.{one-fault}
use Rattle.tal_reader.proofs.reader.a_text_is_refused_for_one_fault.Goals as goal

pub returns : goal.returns
returns c = one-fault
