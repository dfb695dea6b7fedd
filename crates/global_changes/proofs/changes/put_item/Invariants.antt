use Rattle.std.proofs.Common.{◌≡◌, ◌++◌, drop}
use Rattle.global_changes.specs.Changes.{item_set}
use Rattle.global_changes.proofs.changes.put_item.Given as goal

abbrev pub invariant-loop-place : goal.invariant-loop-place
invariant-loop-place l = l.initial.sets ++ item_set l.item 0 l.before l.after
    ≡ l.sets ++ item_set l.item l.place (drop l.place l.before) l.after_left
