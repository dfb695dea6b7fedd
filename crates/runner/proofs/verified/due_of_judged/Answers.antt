use Rattle.std.proofs.Common.{◌≤◌, length, subst, sym}
use Rattle.verdicts.specs.Judgeable.{AreJudgeable}
use Rattle.verdicts.specs.Refused.{AreAccepted}
use Rattle.command_dues.proofs.VerifiedLemmas.{report_is_due}
use Rattle.runner.proofs.verified.due_of_judged.Goals as goal

pub first_refused-requires-clause-few : goal.first_refused-requires-clause-few
first_refused-requires-clause-few c =
    let startable =
    c.an_accepted_deck_meets_the_premises.ensures.startable c.requires.spelt.0 c.args.deck c.requires.spelt.1 in
    subst (λ specs. length specs ≤ 16) (sym c.as_slice.ensures) startable.limits.processes

pub first_refused-requires-clause-judgeable : goal.first_refused-requires-clause-judgeable
first_refused-requires-clause-judgeable c =
    subst AreJudgeable (sym c.as_slice.ensures)
    (c.an_accepted_deck_meets_the_premises.ensures.judgeable c.requires.spelt.0 c.args.deck c.requires.spelt.1)

pub due_of_report-requires-clause-playable : goal.due_of_report-requires-clause-playable
due_of_report-requires-clause-playable c =
    let startable =
    c.an_accepted_deck_meets_the_premises.ensures.startable c.requires.spelt.0 c.args.deck c.requires.spelt.1 in
    record { limits = startable.limits; loadable = startable.loadable }

pub returns-in-Ok-None-clause-due : goal.returns-in-Ok-None-clause-due
returns-in-Ok-None-clause-due c =
    report_is_due c.args.deck c.args.report.now c.due_of_report.result
    (subst AreAccepted c.as_slice.ensures (rw c.in-Ok-None.field-0-is at c.in-Ok-None.ensures))
    c.due_of_report.ensures.due
