use Rattle.deck_reader.proofs.OneAnswer.{one_refusal}
use Rattle.deck_reader.proofs.laws.bytes_are_refused_for_one_fault.Goals as goal

pub returns : goal.returns
returns c = one_refusal
