use Rattle.std.proofs.Common.{◌∙◌, refl}
use Rattle.node_needs.specs.NodeNeeds.{waiting_at}
use Rattle.open_links.specs.Parts.{waiting_of}
use Rattle.open_links.proofs.Gathered.{process-step}
use Rattle.open_links.proofs.telling.waiting.Goals as goal

pub loop-process-preserved : goal.loop-process-preserved
loop-process-preserved c =
    c.loop-process.invariant
    ∙ process-step (waiting_of c.args.node) c.args.processes.now c.loop-process.process-index c.process-item.result
    c.loop-process.requests c.add_waiting.new.requests
    (waiting_at c.args.node c.process-item.result.pair.first)
    (waiting_at c.args.node c.process-item.result.pair.second)
    c.loop-process-test.true c.process-item.is refl c.in_ok-add_waiting.ensures
