use Rattle.std.proofs.Common.{◌≤◌, ℕ, ◌+◌, Bool, true, false, ap, arith}
use Rattle.tal_code.specs.Waiting.{one_more, is_ready, waiting_of}
use Rattle.tal_code.proofs.Waits.{waiting-two}
use Rattle.program_tests.proofs.running.two.Goals as goal

most : (ready : Bool) (waiting : ℕ) → one_more ready waiting ≤ waiting + 1
most true waiting = omega arith
most false waiting = omega arith

pub returns : goal.returns
returns c =
    omega (
      arith,
      waiting-two c.args.op c.in_ok-left.left c.in_ok-right.right,
      most (is_ready c.in_ok-right.right) (waiting_of c.in_ok-right.right),
      ap waiting_of c.in_ok-left.ensures,
      ap waiting_of c.in_ok-right.ensures,
    )
