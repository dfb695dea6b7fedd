use Rattle.std.proofs.Common.{refl}
use Rattle.runner_guards.proofs.dues.a_report_is_of_an_accepted_deck.Goals as goal

pub returns-clause-verdict : goal.returns-clause-verdict
returns-clause-verdict c = λ deck site is. is.0 refl

pub returns-clause-report : goal.returns-clause-report
returns-clause-report c = λ deck task report judged is. is.0 judged
