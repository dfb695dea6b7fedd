use Rattle.std.proofs.Common.{◌<◌, arith}
use Rattle.tal_code.specs.Parts.{Valued}
use Rattle.tal_code.specs.Waiting.{waiting_of}
use Rattle.code_room.specs.Steps.{steps_of}
use Rattle.code_room.specs.Examples.{nested}
use Rattle.code_room.proofs.Guarded.{nested_wait}
use Rattle.code_room.proofs.Low.{computed, low_where_few}
use Rattle.code_room.proofs.guards.seventy_nine_may_wait.Goals as goal

pub returns-clause-most : goal.returns-clause-most
returns-clause-most c =
    (low_where_few (Valued (nested 79)) (waiting_of (nested 79)) (steps_of (nested 79)) (computed (nested 79))).1
    (omega (arith, nested_wait 79))

pub returns-clause-over : goal.returns-clause-over
returns-clause-over c low =
    let few : waiting_of (nested 80) < 80 =
    (low_where_few (Valued (nested 80)) (waiting_of (nested 80)) (steps_of (nested 80)) (computed (nested 80))).0 low in
    omega (arith, few, nested_wait 80)
