use Rattle.std.proofs.Common.{ap, arith}
use Rattle.tal_code.specs.Waiting.{waiting_of_test}
use Rattle.tal_code.proofs.Waits.{waiting-or}
use Rattle.program_tests.proofs.running.either.Goals as goal

pub returns : goal.returns
returns c =
    omega (
      arith,
      waiting-or c.in_ok-left.left c.in_ok-right.right,
      ap waiting_of_test c.in_ok-left.ensures,
      ap waiting_of_test c.in_ok-right.ensures,
    )
