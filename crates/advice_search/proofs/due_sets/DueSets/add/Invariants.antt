use Rattle.std.proofs.Common.{◌≡◌, length, take}
use Rattle.advice_search.specs.Gathered.{AreAdded}
use Rattle.advice_search.proofs.due_sets.DueSets.add.Given as goal

abbrev pub invariant-loop-visit : goal.invariant-loop-visit
invariant-loop-visit l =
    (length l.self.sets.items ≡ 2001)
    × AreAdded l.flow (take l.visit-index l.visits) l.member l.fn.self.sets.items l.self.sets.items
