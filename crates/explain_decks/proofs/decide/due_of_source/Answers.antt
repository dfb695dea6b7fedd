use Rattle.std.proofs.Common.{[], refl, rules, subst, ◌∙◌}
use Rattle.explain_break.specs.break_progress.proofs.Told.{nothing_goes_out, nothing_is_told}
use Rattle.explain_decks.specs.Decided.{IsDueOfBytes}
use Rattle.explain_decks.proofs.DecidedLemmas.{are_left, bytes_are_due, too_long_is_due}
use Rattle.explain_decks.proofs.decide.due_of_source.Goals as goal

pub returns-in-Ok-clause-due : goal.returns-in-Ok-clause-due
returns-in-Ok-clause-due g c =
    let read = c.in-Ok.ensures.bytes in
    let due = c.due_of_bytes.ensures.due in (
      due.0,
      due.1,
      bytes_are_due c.args.telling _ _ _ read.0 due.0 c.due_of_bytes.result (are_left _ _ read.0 read.1 read.2)
          (subst (λ bytes. IsDueOfBytes c.args.telling bytes due.0 c.due_of_bytes.result)
          (c.as_slice.ensures ∙ read.3.0) due.2),
    )

pub returns-in-Err-TooLong-clause-due : goal.returns-in-Err-TooLong-clause-due
returns-in-Err-TooLong-clause-due g c =
    let read = rw c.in-Err-TooLong.field-0-is at c.in-Err-TooLong.ensures.bytes in (
      [],
      nothing_goes_out g.P.Sink.held g.P.Sink.faults g.P.Sink.sure c.args.progress.now,
      bytes_are_due c.args.telling _ _ _ read.0 [] c.due_of_fault.result (are_left _ _ read.0 read.1 read.2)
          (too_long_is_due c.args.telling read.0 c.due_of_fault.result read.3.0 c.due_of_fault.ensures),
    )

pub returns-in-Err-Failed-clause-due : goal.returns-in-Err-Failed-clause-due
returns-in-Err-Failed-clause-due g c = (
  [],
  nothing_goes_out g.P.Sink.held g.P.Sink.faults g.P.Sink.sure c.args.progress.now,
  (search rules, refl),
)

pub returns-in-Err-NoMemory-clause-due : goal.returns-in-Err-NoMemory-clause-due
returns-in-Err-NoMemory-clause-due g c = (
  [],
  nothing_goes_out g.P.Sink.held g.P.Sink.faults g.P.Sink.sure c.args.progress.now,
  nothing_is_told,
)
