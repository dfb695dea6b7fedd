use Rattle.std.proofs.Common.{ap, arith}
use Rattle.tal_code.specs.Waiting.{waiting_of}
use Rattle.tal_code.proofs.Waits.{waiting-minus}
use Rattle.program_tests.proofs.running.minus.Goals as goal

pub returns : goal.returns
returns c = omega (arith, waiting-minus c.in_ok-inner.inner, ap waiting_of c.in_ok-inner.ensures)
