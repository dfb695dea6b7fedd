use Rattle.program_ends.proofs.Each.{asks-told, reads-told, replies-told}
use Rattle.program_ends.proofs.laws.a_bad_count_is_told.Goals as goal

pub returns-clause-reads : goal.returns-clause-reads
returns-clause-reads c = reads-told

pub returns-clause-replies : goal.returns-clause-replies
returns-clause-replies c = replies-told

pub returns-clause-asks : goal.returns-clause-asks
returns-clause-asks c = asks-told
