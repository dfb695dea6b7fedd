use Rattle.program_ends.proofs.Told.{count-lacks, count-step-lacks, statement-lacks, test-step-lacks, word-lacks}
use Rattle.program_ends.proofs.laws.a_trap_that_is_told_is_one.Goals as goal

pub returns-clause-statement : goal.returns-clause-statement
returns-clause-statement c = statement-lacks

pub returns-clause-test : goal.returns-clause-test
returns-clause-test c = test-step-lacks

pub returns-clause-last : goal.returns-clause-last
returns-clause-last c = count-step-lacks

pub returns-clause-word : goal.returns-clause-word
returns-clause-word c = word-lacks

pub returns-clause-count : goal.returns-clause-count
returns-clause-count c = count-lacks
