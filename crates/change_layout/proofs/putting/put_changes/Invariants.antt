use Rattle.std.proofs.Common.{◌≡◌, ◌++◌, take, flat_map}
use Rattle.change_layout.specs.Layout.{change_words}
use Rattle.change_layout.proofs.putting.put_changes.Given as goal

abbrev pub invariant-loop-change : goal.invariant-loop-change
invariant-loop-change l = l.out ≡ l.initial.out ++ flat_map change_words (take l.change-index l.changes)
