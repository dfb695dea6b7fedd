use Rattle.std.proofs.Common.{◌≡◌, [], length}
use Rattle.image_places.specs.Memories.{globals_from}
use Rattle.image_places.proofs.memories.globals_from.Given as goal

abbrev pub invariant-loop-item : goal.invariant-loop-item
invariant-loop-item l = globals_from l.items_left l.left l.globals ≡ globals_from l.items l.words []

abbrev pub decreases-loop-item : goal.decreases-loop-item
decreases-loop-item l = length l.items_left
