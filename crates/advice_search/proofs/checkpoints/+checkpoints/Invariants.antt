use Rattle.std.proofs.Common.{◌≡◌, ◌++◌, take}
use Rattle.advice_search.specs.Lists.{places_of}
use Rattle.advice_search.proofs.checkpoints.+checkpoints.Given as goal

abbrev pub invariant-push_all-loop-statement : goal.invariant-push_all-loop-statement
invariant-push_all-loop-statement l = l.found ≡ l.fn.found ++ places_of (take l.statement-index l.statements)
