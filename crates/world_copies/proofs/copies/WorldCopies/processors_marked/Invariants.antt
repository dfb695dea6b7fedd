use Rattle.std.proofs.Common.{◌≡◌, ◌-◌, length}
use Rattle.process_copies.specs.message_wires.specs.Idle.{all_from, has_marked_all}
use Rattle.world_copies.proofs.copies.WorldCopies.processors_marked.Given as goal

abbrev pub invariant-loop-node : goal.invariant-loop-node
invariant-loop-node l = all_from (λ node. has_marked_all l.self.world node) 0 (length l.self.world.stopped)
    ≡ all_from (λ node. has_marked_all l.self.world node) l.node (length l.self.world.stopped - l.node)
