use Rattle.std.proofs.Common.{arith, subst, sym, length}
use Rattle.path_semantics.specs.declared.reason.Reason.TheVariants.{Depth}
use Rattle.advice.specs.due_search.specs.Ends.{HasFound}
use Rattle.advice.specs.discipline.proofs.Tried.{aim_with}
use Rattle.advice.specs.Due.{IsFileDue}
use Rattle.advice_search.specs.Gathered.{AreReadable, IsDeepest, AreAdded}
use Rattle.advice_search.proofs.Answering.{depth-none, depth-some}
use Rattle.advice_search.proofs.Deepness.{least-depth, few-deep}
use Rattle.advice_search.proofs.Sets.{due-more}
use Rattle.advice_search.proofs.Told.{file-told, readable}
use Rattle.advice_search.proofs.advising.find_depth.Goals as goal

pub add-requires-clause-readable : goal.add-requires-clause-readable
add-requires-clause-readable c =
    let queue = c.run.new.self.queue.items in
    let nodes = c.args.flow.now in
    let reached = subst (HasFound nodes (aim_with (Depth c.args.file) 4) queue) c.in-None.is
    c.in_ok-run.ensures.found in
    subst (AreReadable nodes) (sym c.visits-visits.ensures)
    (readable nodes (aim_with (Depth c.args.file) 4) queue c.requires.numbers (omega arith) reached)

pub deepest-requires : goal.deepest-requires
deepest-requires c =
    let queue = c.run.new.self.queue.items in
    let nodes = c.args.flow.now in
    let reached = subst (HasFound nodes (aim_with (Depth c.args.file) 4) queue) c.in-None.is
    c.in_ok-run.ensures.found in
    subst (AreReadable nodes) (sym c.visits-visits.ensures)
    (readable nodes (aim_with (Depth c.args.file) 4) queue c.requires.numbers (omega arith) reached)

pub returns-in-None-clause-found : goal.returns-in-None-clause-found
returns-in-None-clause-found c =
    let queue = c.run.new.self.queue.items in
    let nodes = c.args.flow.now in
    let program = c.args.program.now in
    let file = c.args.file in
    let found = subst (HasFound nodes (aim_with (Depth file) 4) queue) c.in-None.is c.in_ok-run.ensures.found in
    let deepest = subst (λ visits. IsDeepest nodes file visits (length visits) c.deepest.result) c.visits-visits.ensures
    c.deepest.ensures in (
      least-depth program nodes c.requires.flow file queue found c.deepest.result deepest,
      few-deep program nodes c.requires.flow file queue found c.deepest.result deepest,
      depth-none program nodes c.requires.flow queue file c.requires.there found,
    )

pub returns-in-None-clause-due : goal.returns-in-None-clause-due
returns-in-None-clause-due c =
    let queue = c.run.new.self.queue.items in
    let nodes = c.args.flow.now in
    let program = c.args.program.now in
    let file = c.args.file in
    let before = c.args.files.now.sets.items in
    let after = c.add.new.self.sets.items in
    let reached = subst (HasFound nodes (aim_with (Depth file) 4) queue) c.in-None.is c.in_ok-run.ensures.found in
    let added = subst (λ visits. AreAdded nodes visits file before after) c.visits-visits.ensures
    (subst (λ member. AreAdded nodes c.visits-visits.result.now member before after) c.from.ensures
    c.add.ensures.added) in
    due-more (IsFileDue program) nodes queue file before after c.requires.count added
    (λ number. file-told program nodes c.requires.flow queue file number reached) c.requires.due

pub returns-in-Some-clause-found : goal.returns-in-Some-clause-found
returns-in-Some-clause-found c =
    depth-some c.args.program.now c.args.flow.now c.requires.flow c.run.new.self.queue.items c.args.file
    c.requires.there c.requires.bounds c.requires.before c.in-Some.path
    (subst (HasFound c.args.flow.now (aim_with (Depth c.args.file) 4) c.run.new.self.queue.items) c.in-Some.is
    c.in_ok-run.ensures.found)
