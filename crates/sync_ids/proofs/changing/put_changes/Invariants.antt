use Rattle.std.proofs.Common.{◌≡◌, drop, map}
use Rattle.sync_ids.specs.Changes.{with_changes}
use Rattle.sync_ids.specs.Openers.{block_of, depth_of}
use Rattle.sync_ids.proofs.changing.put_changes.Given as goal

abbrev pub invariant-loop-change : goal.invariant-loop-change
invariant-loop-change l =
    (with_changes (map depth_of l.initial.openers) (map block_of l.openers) (drop l.change-index l.changes)
    ≡ with_changes (map depth_of l.initial.openers) (map block_of l.initial.openers) l.changes)
    × (map depth_of l.openers ≡ map depth_of l.initial.openers)
