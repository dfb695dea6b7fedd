use Rattle.std.proofs.Common.{pos}
use Rattle.program_ends.proofs.Each.{count-step-told, return-told, statement-told, test-step-told, word-told}
use Rattle.program_ends.proofs.laws.each_trap_is_told.Goals as goal

pub returns-clause-statement : goal.returns-clause-statement
returns-clause-statement c = statement-told

pub returns-clause-test : goal.returns-clause-test
returns-clause-test c = test-step-told

pub returns-clause-last : goal.returns-clause-last
returns-clause-last c = count-step-told

pub returns-clause-word : goal.returns-clause-word
returns-clause-word c = return-told

pub returns-clause-at_end : goal.returns-clause-at_end
returns-clause-at_end c = λ program s none. word-told program s (pos 0) none
