use Rattle.std.proofs.Common.{◌≡◌, take}
use Rattle.path_semantics.specs.Bounds.{greatest, of_called}
use Rattle.path_semantics.proofs.depth.+deepest.Given as goal

abbrev pub invariant-deepest-loop-statement : goal.invariant-deepest-loop-statement
invariant-deepest-loop-statement l = l.found ≡ greatest (of_called l.before (take l.statement-index l.statements))
