use Rattle.code_room.proofs.Guarded.{nested_wait, nested_tests_wait}
use Rattle.code_room.proofs.guards.right_sides_in_one_another_make_more_wait.Goals as goal

pub returns-clause-values : goal.returns-clause-values
returns-clause-values c = nested_wait

pub returns-clause-tests : goal.returns-clause-tests
returns-clause-tests c = nested_tests_wait
