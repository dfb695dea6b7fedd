use Rattle.due_search.proofs.Seen.{come-seen}
use Rattle.due_search.proofs.search.Search.come.Goals as goal

pub returns-clause-once : goal.returns-clause-once
returns-clause-once c =
    come-seen c.args.self.now.seen.items c.args.self.now.queue.items c.push.new.self.items c.args.visit
    c.place_in_seen-place.result c.index.result.now c.requires.once c.place_in_seen-place.ensures
    c.requires.room c.index.ensures c.if-index.false c.requires.due c.in_ok-push.ensures.items
