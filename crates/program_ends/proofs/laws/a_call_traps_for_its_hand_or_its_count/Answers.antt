use Rattle.program_ends.proofs.Why.{asks-why, reads-why, replies-why}
use Rattle.program_ends.proofs.laws.a_call_traps_for_its_hand_or_its_count.Goals as goal

pub returns-clause-reads : goal.returns-clause-reads
returns-clause-reads c = reads-why

pub returns-clause-replies : goal.returns-clause-replies
returns-clause-replies c = replies-why

pub returns-clause-asks : goal.returns-clause-asks
returns-clause-asks c = asks-why
