use Rattle.std.proofs.Common.{◌≡◌, ◌++◌, drop}
use Rattle.global_changes.specs.Changes.{items_set}
use Rattle.global_changes.proofs.changes.put_items.Given as goal

abbrev pub invariant-loop-number : goal.invariant-loop-number
invariant-loop-number l = l.initial.sets ++ items_set 0 l.items l.before l.after
    ≡ l.sets ++ items_set l.number (drop l.number l.items) l.before_left l.after_left
