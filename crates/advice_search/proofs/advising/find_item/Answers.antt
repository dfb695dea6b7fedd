use Rattle.std.proofs.Common.{arith, subst, sym}
use Rattle.advice.specs.Due.{IsItemDue}
use Rattle.advice_search.specs.Gathered.{AreReadable, AreAdded}
use Rattle.advice_search.proofs.Sets.{due-more}
use Rattle.advice_search.proofs.Told.{item_aim, item-told, never-ends, readable}
use Rattle.advice_search.proofs.advising.find_item.Goals as goal

pub add-requires-clause-readable : goal.add-requires-clause-readable
add-requires-clause-readable c =
    let queue = c.run.new.self.queue.items in
    let nodes = c.args.flow.now in
    let reached = never-ends c.args.program.now nodes c.requires.flow queue c.args.item c.in_ok-run.field-0
    c.in_ok-run.ensures.found in
    subst (AreReadable nodes) (sym c.visits.ensures)
    (readable nodes (item_aim c.args.item) queue c.requires.numbers (omega arith) reached)

pub returns-clause-due : goal.returns-clause-due
returns-clause-due c =
    let queue = c.run.new.self.queue.items in
    let nodes = c.args.flow.now in
    let program = c.args.program.now in
    let item = c.args.item in
    let before = c.args.items.now.sets.items in
    let after = c.add.new.self.sets.items in
    let reached = never-ends program nodes c.requires.flow queue item c.in_ok-run.field-0 c.in_ok-run.ensures.found in
    let added = subst (λ visits. AreAdded nodes visits item before after) c.visits.ensures c.add.ensures.added in
    due-more (IsItemDue program) nodes queue item before after c.requires.count added
    (λ number. item-told program nodes c.requires.flow queue item number reached) c.requires.due
