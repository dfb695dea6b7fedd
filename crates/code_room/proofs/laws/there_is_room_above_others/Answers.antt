use Rattle.code_room.proofs.Low.{computed, tested}
use Rattle.code_room.proofs.laws.there_is_room_above_others.Goals as goal

pub returns-clause-value : goal.returns-clause-value
returns-clause-value c = λ e s. ((computed e).needed s, (computed e).room s)

pub returns-clause-test : goal.returns-clause-test
returns-clause-test c = λ test s. ((tested test).needed s, (tested test).room s)
