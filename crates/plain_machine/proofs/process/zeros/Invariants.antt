use Rattle.std.proofs.Common.{◌≡◌, replicate}
use Rattle.process_semantics.specs.State.{zeros}
use Rattle.plain_machine.proofs.process.zeros.Given as goal

abbrev pub invariant-loop : goal.invariant-loop
invariant-loop l = l.all.items ≡ replicate l.counter (zeros 8)
