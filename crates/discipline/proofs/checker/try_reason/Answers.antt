use Rattle.std.proofs.Common.{◌≤◌, subst, sym, ◌∙◌}
use Rattle.due_search.specs.Ends.{HasFound}
use Rattle.due_search.proofs.Numbering.{walked-low}
use Rattle.discipline.proofs.Tried.{aim_with, found-none, found-some, has-most}
use Rattle.discipline.proofs.checker.try_reason.Goals as goal

pub returns-then-not-has-clause-tried : goal.returns-then-not-has-clause-tried
returns-then-not-has-clause-tried c =
    c.requires.suspects c.args.program.now c.args.reason c.requires.flow
    (has-most c.args.program.now c.args.reason c.requires.limits c.requires.known).some c.requires.near
    (sym c.has.ensures ∙ c.if-not-has.true)

pub run-requires-clause-few : goal.run-requires-clause-few
run-requires-clause-few c = subst (λ n. n ≤ 4) (sym c.most_of-most.ensures)
    (has-most c.args.program.now c.args.reason c.requires.limits c.requires.known).few

pub run-requires-clause-numbers : goal.run-requires-clause-numbers
run-requires-clause-numbers c =
    walked-low c.args.program.now c.args.flow.now c.requires.flow c.requires.ordered c.requires.limits

pub returns-in-Ok-None-clause-tried : goal.returns-in-Ok-None-clause-tried
returns-in-Ok-None-clause-tried c =
    found-none c.args.program.now c.args.reason
    (has-most c.args.program.now c.args.reason c.requires.limits c.requires.known).there c.args.flow.now
    c.requires.flow
    c.most_of-most.result c.most_of-most.ensures c.run.new.self.queue.items
    (subst (HasFound c.args.flow.now (aim_with c.args.reason c.most_of-most.result) c.run.new.self.queue.items)
    c.in-Ok-None.field-0-is c.in-Ok-None.ensures.found)

pub returns-in-Ok-Some-clause-tried : goal.returns-in-Ok-Some-clause-tried
returns-in-Ok-Some-clause-tried c = record {
  bounds = c.requires.bounds;
  shortest = found-some c.args.program.now c.args.reason
      (has-most c.args.program.now c.args.reason c.requires.limits c.requires.known).there c.args.flow.now
      c.requires.flow
      c.most_of-most.result c.most_of-most.ensures c.run.new.self.queue.items c.in-Ok-Some.path
      (subst (HasFound c.args.flow.now (aim_with c.args.reason c.most_of-most.result) c.run.new.self.queue.items)
      c.in-Ok-Some.field-0-is c.in-Ok-Some.ensures.found);
  first = c.requires.before;
}
