use Rattle.code_room.proofs.Guarded.{differences_wait, products_wait, chained_tests_wait}
use Rattle.code_room.proofs.guards.a_chain_makes_few_wait.Goals as goal

pub returns-clause-numbers : goal.returns-clause-numbers
returns-clause-numbers c = differences_wait

pub returns-clause-products : goal.returns-clause-products
returns-clause-products c = products_wait

pub returns-clause-tests : goal.returns-clause-tests
returns-clause-tests c = chained_tests_wait
