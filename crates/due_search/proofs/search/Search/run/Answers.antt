use Rattle.std.proofs.Common.{subst, sym}
use Rattle.due_search.specs.Ends.{AreReached, HasStopped}
use Rattle.due_search.proofs.Numbering.{queue-trail}
use Rattle.due_search.proofs.Paths.{first-end}
use Rattle.due_search.proofs.search.Search.run.Goals as goal

pub path_to-requires-clause-trail : goal.path_to-requires-clause-trail
path_to-requires-clause-trail c =
    let stopped = subst (HasStopped c.args.flow.now c.args.aim c.explore.new.self.queue.items) c.in-Some.is
    c.in_ok-explore.ensures.stopped in
    queue-trail c.args.flow.now c.requires.numbers c.args.aim c.explore.new.self.queue.items c.in-Some.place
    stopped.0.search

pub returns-in-None-clause-found : goal.returns-in-None-clause-found
returns-in-None-clause-found c =
    subst (AreReached c.args.flow.now c.args.aim) (sym c.clear.ensures.visits)
    (subst (HasStopped c.args.flow.now c.args.aim c.explore.new.self.queue.items) c.in-None.is
    c.in_ok-explore.ensures.stopped)

pub returns-in_ok-path-in-Some-clause-found : goal.returns-in_ok-path-in-Some-clause-found
returns-in_ok-path-in-Some-clause-found c = λ program flow.
    let stopped = subst (HasStopped c.args.flow.now c.args.aim c.explore.new.self.queue.items) c.in-Some.is
    c.in_ok-explore.ensures.stopped in
    first-end program c.args.flow.now flow c.args.aim c.explore.new.self.queue.items c.in-Some.place stopped.0
    stopped.1 c.in_ok-path-in-Some.path c.in_ok-path-in-Some.ensures
