use Rattle.std.proofs.Common.{subst, ◌∙◌}
use Rattle.command_dues.specs.Decided.{IsDueOfBytes}
use Rattle.command_dues.proofs.DecidedLemmas.{bytes_are_due, told}
use Rattle.runner.proofs.decide.due_of_source.Goals as goal

pub returns-in-Ok-clause-due : goal.returns-in-Ok-clause-due
returns-in-Ok-clause-due g c =
    let read = c.in-Ok.ensures.bytes in
    bytes_are_due c.args.task _ _ _ read.0 c.due_of_bytes.result (told _ _ read.0 read.1 read.2)
    (subst (λ bytes. IsDueOfBytes c.args.task bytes c.due_of_bytes.result) (c.as_slice.ensures ∙ read.3.0)
    c.due_of_bytes.ensures.due)

pub returns-in-Err-TooLong-clause-due : goal.returns-in-Err-TooLong-clause-due
returns-in-Err-TooLong-clause-due g c =
    let read = rw c.in-Err-TooLong.field-0-is at c.in-Err-TooLong.ensures.bytes in
    (read.0, told _ _ read.0 read.1 read.2, read.3.0)
