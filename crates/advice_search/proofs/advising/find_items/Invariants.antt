use Rattle.std.proofs.Common.{◌≡◌, length}
use Rattle.advice.specs.due_search.specs.Search.{IsClear}
use Rattle.advice.specs.Due.{IsItemDue}
use Rattle.advice_search.specs.Gathered.{AreDue}
use Rattle.advice_search.proofs.advising.find_items.Given as goal

abbrev pub invariant-loop-item : goal.invariant-loop-item
invariant-loop-item l =
    (length l.items.sets.items ≡ 2001) × AreDue (IsItemDue l.program) l.items.sets.items l.item
    × IsClear l.search.seen.items × (length l.search.seen.items ≡ length l.fn.search.seen.items)
