use Rattle.program_ends.proofs.Kept.{ends-by, traps-by}
use Rattle.program_ends.proofs.laws.a_program_ends_so.Goals as goal

pub returns-clause-traps : goal.returns-clause-traps
returns-clause-traps c = traps-by

pub returns-clause-ends : goal.returns-clause-ends
returns-clause-ends c = ends-by
