use Rattle.std.proofs.Common.{Err, ap, sym, subst, ◌∙◌}
use Rattle.command_dues.specs.Decided.{IsDueOfBytes}
use Rattle.command_dues.specs.Written.{CanBeWritten}
use Rattle.command_dues.proofs.DecidedLemmas.{deck_is_due, fault_is_due, fault_is_written}
use Rattle.runner.proofs.decide.due_of_bytes.Goals as goal

pub returns-in-Ok-clause-due : goal.returns-in-Ok-clause-due
returns-in-Ok-clause-due c =
    deck_is_due c.args.task c.args.bytes.now c.in-Ok.deck c.due_of_deck.result c.in-Ok.ensures.ok
    c.due_of_deck.ensures.due

pub returns-in-Err-clause-due : goal.returns-in-Err-clause-due
returns-in-Err-clause-due c =
    subst (IsDueOfBytes c.args.task c.args.bytes.now) (sym c.due_of_fault.ensures)
    (fault_is_due c.args.task c.args.bytes.now c.in-Err.fault c.in-Err.ensures.err)

pub returns-in-Err-clause-written : goal.returns-in-Err-clause-written
returns-in-Err-clause-written c =
    subst CanBeWritten (sym c.due_of_fault.ensures)
    (fault_is_written c.args.bytes.now c.in-Err.fault c.in-Err.ensures.err
    (λ number e. c.read_deck.ensures.told number (c.in-Err.is ∙ ap Err e)))

pub due_of_deck-requires : goal.due_of_deck-requires
due_of_deck-requires c = (c.args.bytes.now, c.in-Ok.ensures.ok)
