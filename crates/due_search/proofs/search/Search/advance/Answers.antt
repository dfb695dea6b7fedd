use Rattle.std.proofs.Common.{rules, None, Some, refl}
use Rattle.due_search.proofs.Advancing.{due-few, head-few, steps-few, first-room, second-room, ends-here, goes-further}
use Rattle.due_search.proofs.search.Search.advance.Goals as goal

pub returns-then-ends_at-clause-advances : goal.returns-then-ends_at-clause-advances
returns-then-ends_at-clause-advances c = (
  refl,
  ends-here c.args.flow.now c.args.aim c.args.self.now.seen.items c.args.self.now.queue.items c.args.head
      c.index-visit.result.now c.node-node.result.now
      c.requires.size c.requires.searched c.requires.once c.requires.room c.requires.head c.index-visit.ensures
      c.node-node.ensures.node c.node-node.ensures.within _ c.ends_at.result
      c.entry-entry.ensures c.ends_at.ensures c.if-ends_at.true,
)

pub after_entry-after-requires : goal.after_entry-after-requires
after_entry-after-requires c =
    due-few c.args.flow.now c.args.aim c.args.self.now.seen.items c.args.self.now.queue.items c.args.head
    c.index-visit.result.now c.node-node.result.now
    c.requires.size c.requires.searched c.requires.once c.requires.room c.requires.head c.index-visit.ensures
    c.node-node.ensures.node c.node-node.ensures.within

pub overflow_cast-from : goal.overflow_cast-from
overflow_cast-from c =
    let few = head-few c.args.flow.now c.args.aim c.args.self.now.seen.items c.args.self.now.queue.items c.args.head
    c.index-visit.result.now c.node-node.result.now
    c.requires.size c.requires.searched c.requires.once c.requires.room c.requires.head c.index-visit.ensures
    c.node-node.ensures.node c.node-node.ensures.within in
    search (rules, few)

pub follow-requires-clause-steps : goal.follow-requires-clause-steps
follow-requires-clause-steps c =
    steps-few c.args.flow.now c.args.aim c.args.self.now.seen.items c.args.self.now.queue.items c.args.head
    c.index-visit.result.now c.node-node.result.now
    c.requires.size c.requires.searched c.requires.once c.requires.room c.requires.head c.index-visit.ensures
    c.node-node.ensures.node c.node-node.ensures.within

pub follow-requires-clause-goal : goal.follow-requires-clause-goal
follow-requires-clause-goal c =
    first-room c.args.flow.now c.args.aim c.args.self.now.seen.items c.args.self.now.queue.items c.args.head
    c.index-visit.result.now c.node-node.result.now
    c.requires.size c.requires.searched c.requires.once c.requires.room c.requires.head c.index-visit.ensures
    c.node-node.ensures.node c.node-node.ensures.within c.first.result.now c.first.ensures

pub follow-requires-in-Some-clause-steps : goal.follow-requires-in-Some-clause-steps
follow-requires-in-Some-clause-steps c =
    steps-few c.args.flow.now c.args.aim c.args.self.now.seen.items c.args.self.now.queue.items c.args.head
    c.index-visit.result.now c.node-node.result.now
    c.requires.size c.requires.searched c.requires.once c.requires.room c.requires.head c.index-visit.ensures
    c.node-node.ensures.node c.node-node.ensures.within

pub follow-requires-in-Some-clause-goal : goal.follow-requires-in-Some-clause-goal
follow-requires-in-Some-clause-goal c =
    second-room c.args.flow.now c.args.aim c.args.self.now.seen.items c.args.self.now.queue.items c.args.head
    c.index-visit.result.now c.node-node.result.now
    c.requires.size c.requires.searched c.requires.once c.requires.room c.requires.head c.index-visit.ensures
    c.node-node.ensures.node c.node-node.ensures.within c.in-Some.edge.now c.in-Some.ensures _
    c.follow.ensures.room

pub returns-in_ok-follow-2-clause-advances : goal.returns-in_ok-follow-2-clause-advances
returns-in_ok-follow-2-clause-advances c =
    goes-further c.args.flow.now c.args.aim c.args.self.now.seen.items c.args.self.now.queue.items c.args.head
    c.index-visit.result.now c.node-node.result.now
    c.requires.size c.requires.searched c.requires.once c.requires.room c.requires.head c.index-visit.ensures
    c.node-node.ensures.node c.node-node.ensures.within _ c.ends_at.result
    c.entry-entry.ensures c.ends_at.ensures c.if-ends_at.false c.after_entry-after.result
    c.after_entry-after.ensures.value
    c.follow.new.self.queue.items c.follow-in-Some.new.self.queue.items c.first.result.now c.first.ensures
    c.in_ok-follow.ensures.comes (Some c.in-Some.edge.now) c.in-Some.ensures
    c.in_ok-follow-2.ensures.comes

pub returns-in_default-clause-advances : goal.returns-in_default-clause-advances
returns-in_default-clause-advances c =
    goes-further c.args.flow.now c.args.aim c.args.self.now.seen.items c.args.self.now.queue.items c.args.head
    c.index-visit.result.now c.node-node.result.now
    c.requires.size c.requires.searched c.requires.once c.requires.room c.requires.head c.index-visit.ensures
    c.node-node.ensures.node c.node-node.ensures.within _ c.ends_at.result
    c.entry-entry.ensures c.ends_at.ensures c.if-ends_at.false c.after_entry-after.result
    c.after_entry-after.ensures.value
    c.follow.new.self.queue.items c.follow.new.self.queue.items c.first.result.now c.first.ensures
    c.in_ok-follow.ensures.comes None c.in_default.ensures refl
