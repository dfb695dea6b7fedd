use Rattle.tal_code.specs.Parts.{Valued, Tested}
use Rattle.tal_code.proofs.Room.{all-room}
use Rattle.tal_code.specs.Waiting.{waiting_of, waiting_of_test}
use Rattle.code_room.specs.Steps.{steps_of, steps_of_test}
use Rattle.code_room.proofs.Low.{computed, tested, low_where_few}
use Rattle.code_room.proofs.laws.there_is_room_where_few_wait.Goals as goal

pub returns-clause-value : goal.returns-clause-value
returns-clause-value c = λ e. low_where_few (Valued e) (waiting_of e) (steps_of e) (computed e)

pub returns-clause-test : goal.returns-clause-test
returns-clause-test c = λ test. low_where_few (Tested test) (waiting_of_test test) (steps_of_test test) (tested test)

pub returns-clause-value_room : goal.returns-clause-value_room
returns-clause-value_room c =
    λ e few. all-room (steps_of e) ((low_where_few (Valued e) (waiting_of e) (steps_of e) (computed e)).1 few)

pub returns-clause-test_room : goal.returns-clause-test_room
returns-clause-test_room c = λ test few.
    all-room (steps_of_test test) ((low_where_few (Tested test) (waiting_of_test test) (steps_of_test test)
    (tested test)).1 few)
