use Rattle.std.proofs.Common.{◌≡◌, ◌-◌, length, slice_get}
use Rattle.process_copies.specs.message_wires.specs.Idle.{all_from, has_marked_if}
use Rattle.world_copies.proofs.copies.WorldCopies.has_marked_stopped.Given as goal

abbrev pub invariant-loop-processor : goal.invariant-loop-processor
invariant-loop-processor l =
    all_from (λ processor. has_marked_if l.self.world l.node processor (slice_get l.self.world.stopped processor)) 0
    (length l.self.world.stopped)
    ≡ all_from (λ processor. has_marked_if l.self.world l.node processor (slice_get l.self.world.stopped processor))
    l.processor
    (length l.self.world.stopped - l.processor)
