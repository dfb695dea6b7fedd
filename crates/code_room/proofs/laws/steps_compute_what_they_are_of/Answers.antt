use Rattle.tal_code.specs.Parts.{nothing}
use Rattle.code_room.proofs.Low.{computed, tested}
use Rattle.code_room.proofs.laws.steps_compute_what_they_are_of.Goals as goal

pub returns-clause-value : goal.returns-clause-value
returns-clause-value c = λ e. (computed e).part_is nothing

pub returns-clause-test : goal.returns-clause-test
returns-clause-test c = λ test. (tested test).part_is nothing
