use Rattle.std.proofs.Common.{Err, [], ap, ◌∙◌}
use Rattle.explain_break.specs.break_progress.proofs.Told.{nothing_goes_out}
use Rattle.explain_decks.proofs.DecidedLemmas.{deck_is_due, fault_is_due, fault_is_written}
use Rattle.explain_decks.proofs.decide.due_of_bytes.Goals as goal

pub returns-in-Err-clause-due : goal.returns-in-Err-clause-due
returns-in-Err-clause-due g c = (
  [],
  nothing_goes_out g.P.Sink.held g.P.Sink.faults g.P.Sink.sure c.args.progress.now,
  fault_is_due c.args.telling c.args.bytes.now c.in-Err.fault c.due_of_fault.result c.in-Err.ensures.err
      c.due_of_fault.ensures,
)

pub returns-in-Err-clause-written : goal.returns-in-Err-clause-written
returns-in-Err-clause-written g c =
    fault_is_written c.args.bytes.now c.in-Err.fault c.due_of_fault.result
    (λ number e. c.read_deck.ensures.told number (c.in-Err.is ∙ ap Err e)) c.due_of_fault.ensures

pub returns-in-Ok-clause-due : goal.returns-in-Ok-clause-due
returns-in-Ok-clause-due g c =
    let due = c.due_of_deck.ensures.due in (
      due.0,
      due.1,
      deck_is_due c.args.telling c.args.bytes.now due.0 c.in-Ok.deck c.due_of_deck.result c.in-Ok.ensures.ok due.2,
    )
