use Rattle.std.proofs.Common.{subst, ◌∙◌}
use Rattle.load_deck.specs.LoadText.{load_text}
use Rattle.command_dues.specs.Decided.{IsDueOfBytes}
use Rattle.runner.proofs.decide.due_of_load.Goals as goal

pub returns-in-Ok-clause-due : goal.returns-in-Ok-clause-due
returns-in-Ok-clause-due c =
    subst (λ task. IsDueOfBytes task (load_text c.args.requests) c.due_of_bytes.result) c.load.ensures
    (subst (λ bytes. IsDueOfBytes c.load.result bytes c.due_of_bytes.result)
    (c.as_slice.ensures.value ∙ c.in-Ok.ensures) c.due_of_bytes.ensures.due)
