use Rattle.std.proofs.Common.{◌≡◌, drop, map}
use Rattle.sync_ids.specs.Openers.{depth_of}
use Rattle.sync_ids.specs.Tables.{are_of_depths}
use Rattle.sync_ids.proofs.receive.all_take.Given as goal

abbrev pub invariant-loop-k : goal.invariant-loop-k
invariant-loop-k l = are_of_depths l.blocks (map depth_of l.openers)
    ≡ are_of_depths (drop l.k l.blocks) (map depth_of (drop l.k l.openers))
