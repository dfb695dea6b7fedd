use Rattle.whole_states.proofs.Hands.{inner-hand, took-hand, got-hand}
use Rattle.whole_states.proofs.laws.hands_are_known.Goals as goal

pub returns-clause-took : goal.returns-clause-took
returns-clause-took c = took-hand

pub returns-clause-inner : goal.returns-clause-inner
returns-clause-inner c = inner-hand

pub returns-clause-got : goal.returns-clause-got
returns-clause-got c = got-hand
