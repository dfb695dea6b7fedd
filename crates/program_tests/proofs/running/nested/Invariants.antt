use Rattle.std.proofs.Common.{◌≤◌}
use Rattle.tal_code.specs.Waiting.{waiting_of}
use Rattle.program_tests.proofs.running.nested.Given as goal

abbrev pub invariant-loop : goal.invariant-loop
invariant-loop l = waiting_of l.expr ≤ l.counter
