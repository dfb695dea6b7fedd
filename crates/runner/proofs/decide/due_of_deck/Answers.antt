use Rattle.std.proofs.Common.{sym, ◌∙◌}
use Rattle.command_dues.proofs.DecidedLemmas.{programs_are_due}
use Rattle.runner.proofs.decide.due_of_deck.Goals as goal

pub returns-clause-due : goal.returns-clause-due
returns-clause-due c =
    programs_are_due c.args.task c.args.deck c.due_of_programs.result (sym c.can_stop.ensures ∙ c.if-not-can_stop.false)
    c.due_of_programs.ensures.due
