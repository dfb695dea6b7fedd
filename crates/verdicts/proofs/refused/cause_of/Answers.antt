use Rattle.verdicts.proofs.refused.cause_of.Goals as goal

pub returns-in-Pair : goal.returns-in-Pair
returns-in-Pair c = rw c.in-Pair.is c.cause_of_program.ensures
