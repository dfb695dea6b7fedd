use Rattle.std.proofs.Common.{◌∙◌, refl}
use Rattle.node_needs.specs.NodeNeeds.{in_hand_at}
use Rattle.open_links.specs.Parts.{in_hand_of}
use Rattle.open_links.proofs.Gathered.{process-step}
use Rattle.open_links.proofs.telling.in_hand.Goals as goal

pub loop-process-preserved : goal.loop-process-preserved
loop-process-preserved c =
    c.loop-process.invariant
    ∙ process-step (in_hand_of c.args.node) c.args.processes.now c.loop-process.process-index c.process-item.result
    c.loop-process.names c.add_in_hand.new.names
    (in_hand_at c.args.node c.process-item.result.number c.process-item.result.pair.first)
    (in_hand_at c.args.node c.process-item.result.number c.process-item.result.pair.second)
    c.loop-process-test.true c.process-item.is refl c.in_ok-add_in_hand.ensures
