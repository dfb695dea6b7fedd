use Rattle.due_search.specs.Search.{IsSeenFrom}
use Rattle.due_search.proofs.search.Search.clear.Given as goal

abbrev pub invariant-loop-visit : goal.invariant-loop-visit
invariant-loop-visit l = IsSeenFrom l.seen l.visits l.visit-index
