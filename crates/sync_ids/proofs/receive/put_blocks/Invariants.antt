use Rattle.std.proofs.Common.{◌≡◌, map, take}
use Rattle.sync_ids.specs.Openers.{block_of, depth_of}
use Rattle.sync_ids.proofs.receive.put_blocks.Given as goal

abbrev pub invariant-loop-k : goal.invariant-loop-k
invariant-loop-k l =
    (map block_of (take l.k l.openers) ≡ take l.k l.blocks) × (map depth_of l.openers ≡ map depth_of l.initial.openers)
