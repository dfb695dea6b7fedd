use Rattle.std.proofs.Common.{◌≡◌, Err, ap, drop, sym, subst, take, ◌∙◌}
use Rattle.command_dues.specs.deck_reader.specs.Decks.{Decks}
use Rattle.command_dues.specs.deck_reader.specs.Refusals.{IsRefusalOf}
use Rattle.command_dues.specs.Verified.{IsDueOfInput, IsDueOfJudged, deck_in, report_in}
use Rattle.command_dues.specs.Written.{CanBeWritten}
use Rattle.command_dues.proofs.DecidedLemmas.{fault_is_written}
use Rattle.command_dues.proofs.VerifiedLemmas.{input_fault_is_due, judged_is_due}
use Rattle.runner.proofs.verified.due_of_input.Goals as goal

pub returns-in-Ok-clause-due : goal.returns-in-Ok-clause-due
returns-in-Ok-clause-due c =
    let bytes = c.args.bytes.now in
    let front : c.split_at.result.0.now ≡ deck_in bytes =
    c.split_at.ensures.front ∙ ap (λ n. take n bytes) c.deck_end.ensures.value in
    let back : c.split_at.result.1.now ≡ report_in bytes =
    c.split_at.ensures.back ∙ ap (λ n. drop n bytes) c.deck_end.ensures.value in
    judged_is_due bytes c.in-Ok.deck c.due_of_judged.result c.requires
    (subst (λ text. Decks text c.in-Ok.deck) front c.in-Ok.ensures.ok)
    (subst (λ report. IsDueOfJudged c.in-Ok.deck report c.due_of_judged.result) back c.due_of_judged.ensures.due)

pub returns-in-Err-clause-due : goal.returns-in-Err-clause-due
returns-in-Err-clause-due c =
    let bytes = c.args.bytes.now in
    let front : c.split_at.result.0.now ≡ deck_in bytes =
    c.split_at.ensures.front ∙ ap (λ n. take n bytes) c.deck_end.ensures.value in
    subst (IsDueOfInput bytes) (sym c.due_of_fault.ensures)
    (input_fault_is_due bytes c.in-Err.fault c.requires
    (λ read. subst (λ text. IsRefusalOf text c.in-Err.fault) front (c.in-Err.ensures.err read)))

pub returns-in-Err-clause-written : goal.returns-in-Err-clause-written
returns-in-Err-clause-written c =
    subst CanBeWritten (sym c.due_of_fault.ensures)
    (fault_is_written c.split_at.result.0.now c.in-Err.fault c.in-Err.ensures.err
    (λ number e. c.read_deck.ensures.told number (c.in-Err.is ∙ ap Err e)))

pub due_of_judged-requires-clause-spelt : goal.due_of_judged-requires-clause-spelt
due_of_judged-requires-clause-spelt c = (c.split_at.result.0.now, c.in-Ok.ensures.ok)
