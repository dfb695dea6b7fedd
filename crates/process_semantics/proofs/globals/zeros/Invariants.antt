use Rattle.std.proofs.Common.{◌≡◌}
use Rattle.process_semantics.specs.State.{zeros}
use Rattle.process_semantics.proofs.globals.zeros.Given as goal

abbrev pub invariant-loop : goal.invariant-loop
invariant-loop l = l.words ≡ zeros l.counter
