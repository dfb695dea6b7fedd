use Rattle.std.proofs.Common.{◌≡◌, ◌++◌, take}
use Rattle.finding_text.specs.Lists.{items_of}
use Rattle.finding_text.proofs.lists.push_items.Given as goal

abbrev pub invariant-loop-item : goal.invariant-loop-item
invariant-loop-item l = l.all ≡ l.fn.all ++ items_of (take l.item-index l.items)
