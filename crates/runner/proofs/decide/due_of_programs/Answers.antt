use Rattle.std.proofs.Common.{◌≤◌, length, subst, sym}
use Rattle.verdicts.specs.Judgeable.{AreJudgeable}
use Rattle.verdicts.specs.Refused.{AreAccepted}
use Rattle.command_dues.proofs.DecidedLemmas.{accepted_is_due}
use Rattle.runner.proofs.decide.due_of_programs.Goals as goal

pub first_refused-requires-clause-few : goal.first_refused-requires-clause-few
first_refused-requires-clause-few c =
    let startable = c.an_accepted_deck_meets_the_premises.ensures.startable c.requires.0 c.args.deck c.requires.1 in
    subst (λ specs. length specs ≤ 16) (sym c.as_slice.ensures) startable.limits.processes

pub first_refused-requires-clause-judgeable : goal.first_refused-requires-clause-judgeable
first_refused-requires-clause-judgeable c =
    subst AreJudgeable (sym c.as_slice.ensures)
    (c.an_accepted_deck_meets_the_premises.ensures.judgeable c.requires.0 c.args.deck c.requires.1)

pub due_of_task-requires-in-Ok-None-clause-accepted : goal.due_of_task-requires-in-Ok-None-clause-accepted
due_of_task-requires-in-Ok-None-clause-accepted c = λ _.
    subst AreAccepted c.as_slice.ensures (rw c.in-Ok-None.field-0-is at c.in-Ok-None.ensures)

pub returns-in-Ok-None-clause-due : goal.returns-in-Ok-None-clause-due
returns-in-Ok-None-clause-due c =
    accepted_is_due c.args.task c.args.deck c.due_of_task-in-Ok-None.result
    (λ _. subst AreAccepted c.as_slice.ensures (rw c.in-Ok-None.field-0-is at c.in-Ok-None.ensures))
    c.due_of_task-in-Ok-None.ensures.due
