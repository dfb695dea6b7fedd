use Rattle.std.proofs.Common.{◌≡◌, ◌-◌, length}
use Rattle.due_search.specs.Search.{IsSeenOnce, IsSearched}
use Rattle.due_search.proofs.search.Search.explore.Given as goal

abbrev pub invariant-loop-head : goal.invariant-loop-head
invariant-loop-head l =
    IsSearched l.flow l.aim l.self.queue.items l.head × IsSeenOnce l.self.seen.items l.self.queue.items
    × (length l.self.seen.items ≡ length l.fn.self.seen.items)

abbrev pub decreases-loop-head : goal.decreases-loop-head
decreases-loop-head l = length l.self.seen.items - l.head
