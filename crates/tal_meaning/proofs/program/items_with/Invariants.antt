use Rattle.std.proofs.Common.{◌≡◌, ◌++◌, drop}
use Rattle.tal_meaning.specs.Programs.{items_with}
use Rattle.tal_meaning.proofs.program.items_with.Given as goal

-- those so far and those that are left are all
abbrev pub invariant-loop-item : goal.invariant-loop-item
invariant-loop-item l = l.all ++ items_with l.files (drop l.item-index l.items) ≡ items_with l.files l.items
