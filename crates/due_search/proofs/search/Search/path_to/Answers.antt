use Rattle.std.proofs.Common.{◌∙◌, ap, ◌+◌}
use Rattle.flow_paths.specs.process_semantics.specs.Rests.{entry_number}
use Rattle.due_search.proofs.Trails.{step-back}
use Rattle.due_search.proofs.search.Search.path_to.Goals as goal

pub loop-preserved : goal.loop-preserved
loop-preserved c =
    step-back c.args.flow.now c.args.self.now.queue.items c.loop.at c.index-visit.result.now c.loop.invariant.0
    c.index-visit.ensures c.node.result.now c.node.ensures.node c.requires.trail
    c.loop.numbers.items _ c.push.new.self.items (c.from-count.result + 1) c.loop.counter c.number.result
    c.from-at.result c.loop-test.true (c.number.ensures ∙ ap entry_number c.entry.ensures)
    c.loop.invariant.1 c.in_ok-push.ensures.items c.from-at.ensures
