use Rattle.std.proofs.Common.{◌<◌, ◌∙◌, arith, length, slice_get, sym}
use Rattle.process_copies.specs.message_wires.specs.Idle.{has_marked_if}
use Rattle.world_copies.proofs.Sweeps.{all-after}
use Rattle.world_copies.proofs.copies.WorldCopies.has_marked_stopped.Goals as goal

pub loop-processor-preserved : goal.loop-processor-preserved
loop-processor-preserved c =
    let s = c.args.self.now in
    let within : c.loop-processor.processor < length s.world.stopped =
    omega (arith, c.loop-processor-test.true, c.processor_count-processor-end.ensures) in
    c.loop-processor.invariant
    ∙ all-after (λ processor. has_marked_if s.world c.args.node processor (slice_get s.world.stopped processor))
    c.loop-processor.processor
    (length s.world.stopped) within (sym c.if-not-has_marked_if.ensures)
