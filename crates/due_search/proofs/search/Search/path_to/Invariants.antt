use Rattle.std.proofs.Common.{◌≡◌, ◌<◌, ◌++◌, ◌-◌, length}
use Rattle.due_search.specs.Search.{back}
use Rattle.due_search.proofs.search.Search.path_to.Given as goal

abbrev pub invariant-loop : goal.invariant-loop
invariant-loop l =
    (l.at < length l.self.queue.items)
    × (l.numbers.items ++ back l.flow l.self.queue.items (l.count - l.counter) l.at
    ≡ back l.flow l.self.queue.items l.count l.fn.place)
