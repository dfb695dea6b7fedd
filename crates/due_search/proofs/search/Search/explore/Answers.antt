use Rattle.std.proofs.Common.{◌≤◌, subst, sym, ◌∙◌}
use Rattle.due_search.specs.Search.{IsSeenOnce}
use Rattle.due_search.proofs.Seen.{none-seen}
use Rattle.due_search.proofs.Ways.{none-reached, searched-reached}
use Rattle.due_search.proofs.search.Search.explore.Goals as goal

pub come-requires-clause-once : goal.come-requires-clause-once
come-requires-clause-once c = subst (IsSeenOnce c.args.self.now.seen.items) (sym c.clear.ensures.items)
    (none-seen c.args.self.now.seen.items c.requires.clear)

pub returns-then-len-eq0-clause-stopped : goal.returns-then-len-eq0-clause-stopped
returns-then-len-eq0-clause-stopped c =
    none-reached c.args.flow.now c.args.aim _ (sym c.len.ensures.count ∙ c.if-len-eq0.true) c.clear.ensures.items

pub returns-clause-stopped : goal.returns-clause-stopped
returns-clause-stopped c =
    searched-reached c.args.flow.now c.args.aim c.loop-head.self.queue.items c.loop-head.head c.loop-head.invariant.0
    (subst (λ n. n ≤ c.loop-head.head) (c.len-in-loop-head.ensures ∙ c.loop-head.self.queue.ok.0)
    c.loop-head-test.false)
