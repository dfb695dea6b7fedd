use Rattle.std.proofs.Common.{◌≡◌, ◌++◌, take, drop}
use Rattle.process_semantics.proofs.globals.overwrite.Given as goal

abbrev pub invariant-loop-k : goal.invariant-loop-k
invariant-loop-k g l = l.cells ≡ take l.k l.items ++ drop l.k l.initial.cells
