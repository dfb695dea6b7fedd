use Rattle.std.proofs.Common.{ap, arith}
use Rattle.tal_code.specs.Waiting.{waiting_of_spot}
use Rattle.tal_code.proofs.Waits.{waiting-read}
use Rattle.program_tests.proofs.running.local.Goals as goal

pub returns : goal.returns
returns c = omega (arith, waiting-read c.in_ok-spot.spot, ap waiting_of_spot c.in_ok-spot.ensures)
