use Rattle.advice_search.specs.Gathered.{IsDeepest}
use Rattle.advice_search.proofs.deepest.deepest.Given as goal

abbrev pub invariant-loop-visit : goal.invariant-loop-visit
invariant-loop-visit l = IsDeepest l.flow l.file l.visits l.visit-index l.depth
