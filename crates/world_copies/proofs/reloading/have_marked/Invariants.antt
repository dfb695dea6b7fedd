use Rattle.std.proofs.Common.{◌≡◌, drop}
use Rattle.world_semantics.specs.World.{marked_from}
use Rattle.world_copies.proofs.reloading.have_marked.Given as goal

abbrev pub invariant-loop-node : goal.invariant-loop-node
invariant-loop-node l =
    marked_from l.downs l.processor 0 l.stopped ≡ marked_from l.downs l.processor l.node (drop l.node l.stopped)
