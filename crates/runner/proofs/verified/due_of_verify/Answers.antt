use Rattle.std.proofs.Common.{inl, refl, subst, ◌∙◌}
use Rattle.command_dues.specs.Verified.{IsDueOfInput}
use Rattle.command_dues.proofs.DecidedLemmas.{told}
use Rattle.command_dues.proofs.VerifiedLemmas.{input_is_due}
use Rattle.runner.proofs.verified.due_of_verify.Goals as goal

pub returns-in-Ok-clause-due : goal.returns-in-Ok-clause-due
returns-in-Ok-clause-due g c =
    let read = c.in-Ok.ensures.bytes in
    input_is_due _ _ _ read.0 c.due_of_input.result (told _ _ read.0 read.1 read.2)
    (subst (λ bytes. IsDueOfInput bytes c.due_of_input.result) (c.as_slice.ensures ∙ read.3.0)
    c.due_of_input.ensures.due)

pub returns-in-Err-TooLong-clause-due : goal.returns-in-Err-TooLong-clause-due
returns-in-Err-TooLong-clause-due g c =
    let read = rw c.in-Err-TooLong.field-0-is at c.in-Err-TooLong.ensures.bytes in
    (read.0, told _ _ read.0 read.1 read.2, inl (read.3.0, refl))
