use Rattle.std.proofs.Common.{◌<◌, ◌∙◌, arith, length, sym}
use Rattle.process_copies.specs.message_wires.specs.Idle.{has_marked_all}
use Rattle.world_copies.proofs.Sweeps.{all-after}
use Rattle.world_copies.proofs.copies.WorldCopies.processors_marked.Goals as goal

pub loop-node-preserved : goal.loop-node-preserved
loop-node-preserved c =
    let s = c.args.self.now in
    let within : c.loop-node.node < length s.world.stopped =
    omega (arith, c.loop-node-test.true, c.processor_count-node-end.ensures) in
    c.loop-node.invariant
    ∙ all-after (λ node. has_marked_all s.world node) c.loop-node.node (length s.world.stopped) within
    (sym c.if-not-has_marked_all.ensures)
