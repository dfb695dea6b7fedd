use Rattle.code_room.proofs.Loops.{limit, next}
use Rattle.code_room.proofs.laws.a_loop_waits_for_its_limit.Goals as goal

pub returns-clause-limit : goal.returns-clause-limit
returns-clause-limit c = limit

pub returns-clause-next : goal.returns-clause-next
returns-clause-next c = next
