use Rattle.std.proofs.Common.{◌≡◌, length}
use Rattle.world_copies.specs.Closed.{closed_world}
use Rattle.world_copies.specs.Closing.{closed_from}
use Rattle.world_copies.proofs.copies.WorldCopies.close.Given as goal

abbrev pub invariant-loop-place : goal.invariant-loop-place
invariant-loop-place l = (record l.fn.self { world = closed_world l.fn.self.world }
    ≡ record l.self { world = closed_from l.place l.self.world })
    × (length l.self.world.processes ≡ length l.fn.self.world.processes)
