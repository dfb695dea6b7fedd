use Rattle.std.proofs.Common.{subst}
use Rattle.path_semantics.specs.declared.reason.Reason.TheVariants.{Input}
use Rattle.advice.specs.due_search.specs.Ends.{HasFound}
use Rattle.advice.specs.discipline.proofs.Tried.{aim_with}
use Rattle.advice_search.proofs.Answering.{input-none, input-some}
use Rattle.advice_search.proofs.advising.try_input.Goals as goal

pub returns-in-None-clause-tried : goal.returns-in-None-clause-tried
returns-in-None-clause-tried c =
    input-none c.args.program.now c.args.flow.now c.requires.flow c.run.new.self.queue.items
    (subst (HasFound c.args.flow.now (aim_with Input 1) c.run.new.self.queue.items) c.in-None.is
    c.in_ok-run.ensures.found)

pub returns-in-Some-clause-tried : goal.returns-in-Some-clause-tried
returns-in-Some-clause-tried c =
    input-some c.args.program.now c.args.flow.now c.requires.flow c.run.new.self.queue.items c.requires.bounds
    c.in-Some.path
    (subst (HasFound c.args.flow.now (aim_with Input 1) c.run.new.self.queue.items) c.in-Some.is
    c.in_ok-run.ensures.found)
