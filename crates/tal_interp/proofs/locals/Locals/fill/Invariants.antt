use Rattle.std.proofs.Common.{◌≡◌, ◌++◌}
use Rattle.process_semantics.specs.State.{zeros}
use Rattle.tal_interp.proofs.locals.Locals.fill.Given as goal

abbrev pub invariant-loop : goal.invariant-loop
invariant-loop l = l.self-inside.words.items ≡ l.initial.self-inside.words.items ++ zeros l.counter
