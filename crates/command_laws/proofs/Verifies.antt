-- A report of its deck is verified.
use Rattle.std.proofs.Common.{◌≡◌, ◌≢◌, ◌⊎◌, inl, inr, ℕ, List, length, Option, Some, refl, subst, sym, ap, ◌∙◌}
use Rattle.std.specs.Prelude.{⊤, Result, Ok, Err}
use Rattle.gd_words.specs.Memory.{no_memory}
use Rattle.command_words.specs.Asked.{asked_by}
use Rattle.command_words.specs.declared.asked.Command.{Command}
use Rattle.command_words.specs.declared.asked.Command.TheVariants.{Verify}
use Rattle.deck_reader.specs.declared.deck.Deck.{Deck}
use Rattle.gd_io.specs.declared.writing.WriteFault.{WriteFault}
use Rattle.command_dues.specs.report_reader.specs.Reading.{acts_in}
use Rattle.command_dues.specs.report_reader.specs.declared.reading.Reading.{Reading}
use Rattle.command_dues.specs.Decided.{IsDue, IsDueOn}
use Rattle.command_dues.specs.Written.{outcome_of, status_of}
use Rattle.command_dues.specs.declared.due.Due.{Due}
use Rattle.command_dues.specs.declared.due.Due.TheVariants as due
use Rattle.command_dues.specs.declared.outcome.Outcome.{Outcome}
use Rattle.command_dues.specs.declared.outcome.Status.TheVariants as status
use Rattle.command_laws.specs.OneDue.{IsSameDue}
use Rattle.command_laws.specs.ReportedInput.{IsReportedInput}
use Rattle.command_laws.specs.RunStatus.{IsStatusOfCheck}
use Rattle.command_laws.proofs.OneDue.{one-due}

same-verified : (decided : Due) (acts : ℕ) → IsSameDue decided (due.Verified acts) → decided ≢ due.ReadFault
    → (decided ≡ due.Verified acts) ⊎ (decided ≡ due.NoMemory no_memory)
same-verified (due.NoMemory memory) acts same read = inr refl
same-verified due.ReadFault acts same read = absurd (read refl)
same-verified due.Usage acts same read = inl same
same-verified (due.DeckRefused fault) acts same read = inl same
same-verified (due.ProgramRefused refused) acts same read = inl same
same-verified (due.Accepted site) acts same read = inl same
same-verified (due.Report report) acts same read = inl same
same-verified (due.Swept rows) acts same read = inl same
same-verified (due.Advised advised) acts same read = inl same
same-verified (due.Unadvised found) acts same read = inl same
same-verified (due.Verified other) acts same read = inl same
same-verified (due.Rejected line cause) acts same read = inl same

pub report-verified : (words : List (List ℕ)) (bytes : List ℕ) (before now : ℕ) (deck : Deck) (reading : Reading)
    (decided : Due)
    → asked_by words ≡ Some Verify → IsReportedInput bytes deck reading
    → IsDue words (Some bytes) before now decided → decided ≢ due.ReadFault
    → (decided ≡ due.Verified (length (acts_in reading.told))) ⊎ (decided ≡ due.NoMemory no_memory)
report-verified words bytes before now deck reading decided asked is due_is read =
    same-verified decided acts
    (one-due words bytes before now before now decided (due.Verified acts) due_is (inr verified)) read
  where
    acts : ℕ
    acts = length (acts_in reading.told)

    verified : IsDueOn (asked_by words) (Some bytes) before now (due.Verified acts)
    verified =
        subst (λ (c : Option Command). IsDueOn c (Some bytes) before now (due.Verified acts)) (sym asked)
        (bytes, refl, (is.few, deck, is.spelt, (is.accepted, (reading, is.read, (is.reported, refl)))))

verified-status : (decided : Due) (acts : ℕ) → (decided ≡ due.Verified acts) ⊎ (decided ≡ due.NoMemory no_memory)
    → IsStatusOfCheck (status_of decided)
verified-status decided acts (inl is) = subst (λ (d : Due). IsStatusOfCheck (status_of d)) (sym is) tt
verified-status decided acts (inr none) = subst (λ (d : Due). IsStatusOfCheck (status_of d)) (sym none) tt

pub verify-ends : (words : List (List ℕ)) (bytes : List ℕ) (before now : ℕ) (deck : Deck) (reading : Reading)
    (decided : Due) (result : Result ⊤ WriteFault) (outcome : Outcome)
    → asked_by words ≡ Some Verify → IsReportedInput bytes deck reading
    → IsDue words (Some bytes) before now decided → outcome ≡ outcome_of decided result
    → outcome.status ≢ status.ReadFault → IsStatusOfCheck outcome.status
verify-ends words bytes before now deck reading decided (Err fault) outcome asked is due_is same sure =
    subst (λ (o : Outcome). IsStatusOfCheck o.status) (sym same) tt
verify-ends words bytes before now deck reading decided (Ok done) outcome asked is due_is same sure =
    subst (λ (o : Outcome). IsStatusOfCheck o.status) (sym same)
    (verified-status decided (length (acts_in reading.told))
    (report-verified words bytes before now deck reading decided asked is due_is
    (λ fault. sure (ap (λ (o : Outcome). o.status) same ∙ ap status_of fault))))
