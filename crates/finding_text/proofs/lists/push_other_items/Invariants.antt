use Rattle.std.proofs.Common.{◌≡◌, ◌++◌, length}
use Rattle.finding_text.specs.Lists.{others_of_items}
use Rattle.finding_text.proofs.lists.push_other_items.Given as goal

abbrev pub invariant-loop-item : goal.invariant-loop-item
invariant-loop-item l = l.all ++ others_of_items l.others l.left ≡ l.fn.all ++ others_of_items l.others l.items

abbrev pub decreases-loop-item : goal.decreases-loop-item
decreases-loop-item l = length l.left
