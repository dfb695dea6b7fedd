use Rattle.number_laws.proofs.Counts.{marked-grows, downs-grow}
use Rattle.number_laws.proofs.laws.a_tick_only_adds_letters.Goals as goal

pub returns-clause-one : goal.returns-clause-one
returns-clause-one c = marked-grows

pub returns-clause-all : goal.returns-clause-all
returns-clause-all c = downs-grow
