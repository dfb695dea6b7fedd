use Rattle.std.proofs.Common.{◌≡◌, ◌++◌}
use Rattle.process_semantics.specs.State.{zeros}
use Rattle.plain_program.proofs.frame.with_zeros.Given as goal

abbrev pub invariant-loop : goal.invariant-loop
invariant-loop l = l.words ≡ l.initial.words ++ zeros l.counter
