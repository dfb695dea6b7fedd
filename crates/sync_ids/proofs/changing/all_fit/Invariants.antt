use Rattle.std.proofs.Common.{◌≡◌, ◌≤◌, drop, map}
use Rattle.sync_ids.specs.Changing.{all_fit}
use Rattle.sync_ids.specs.Openers.{block_of, depth_of}
use Rattle.sync_ids.proofs.changing.all_fit.Given as goal

abbrev pub invariant-loop-change : goal.invariant-loop-change
invariant-loop-change l =
    (all_fit (map depth_of l.openers) (map block_of l.openers) l.least (drop l.change-index l.changes)
    ≡ all_fit (map depth_of l.openers) (map block_of l.openers) 0 l.changes) × (l.least ≤ 65536)
