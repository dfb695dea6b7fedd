use Rattle.std.proofs.Common.{◌≡◌, take}
use Rattle.tal_table.proofs.load.copied_items.Given as goal

abbrev pub invariant-loop-item : goal.invariant-loop-item
invariant-loop-item l = l.all ≡ take l.item-index l.items
