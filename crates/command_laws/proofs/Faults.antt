-- Faults that end a command were counted.
use Rattle.std.proofs.Common.{◌≡◌, ◌≢◌, ℕ, ◌+◌, List, Option, Some, None, Result, Ok, Err, inl, inr, refl, subst, sym}
use Rattle.std.proofs.Common.{ap, ◌∙◌, arith}
use Rattle.std.specs.Prelude.{⊤, IsOk, IsErr, OnErr, length}
use Rattle.command_words.specs.Asked.{asked_by}
use Rattle.command_words.specs.declared.asked.Command.{Command}
use Rattle.command_words.specs.declared.asked.Command.TheVariants.{Advise, Check, Load, Run, Sweep, Verify}
use Rattle.gd_io.specs.Faults.{HasRisen}
use Rattle.gd_io.specs.declared.writing.WriteFault.{WriteFault}
use Rattle.load_deck.specs.LoadText.{load_text}
use Rattle.schedule_loop.specs.declared.ran.Ending.{Ending}
use Rattle.schedule_loop.specs.declared.ran.Ending.TheVariants.{Idle, Cut, Second, Lost}
use Rattle.command_dues.specs.Decided.{IsDue, IsDueOn}
use Rattle.command_dues.specs.RunEnds.{status_of_run}
use Rattle.command_dues.specs.Tasks.{load_task}
use Rattle.command_dues.specs.Written.{IsWritten, outcome_of, text_of}
use Rattle.command_dues.specs.declared.due.Due.{Due}
use Rattle.command_dues.specs.declared.due.Due.TheVariants as due
use Rattle.command_dues.specs.declared.outcome.Outcome.{Outcome}
use Rattle.command_dues.specs.declared.outcome.Status.TheVariants as status
use Rattle.command_dues.proofs.DecidedLemmas.{not_read_fault, read_fault_is_due}

-- Reading

failed-by : (asked : Option Command) (left : Option (List ℕ)) (before now : ℕ)
    → IsDueOn asked left before now due.ReadFault → HasRisen before now
failed-by None left before now is = absurd (cc)
failed-by (Some (Run acts stop)) left before now is = is
failed-by (Some Check) left before now is = is
failed-by (Some (Sweep runs)) left before now is = is
failed-by (Some Verify) left before now is = is
failed-by (Some Advise) left before now is = is
failed-by (Some (Load requests)) left before now is =
    absurd (not_read_fault (load_task requests) (load_text requests) due.ReadFault is refl)

failed : (words : List (List ℕ)) (left : Option (List ℕ)) (before now : ℕ) → IsDue words left before now due.ReadFault
    → HasRisen before now
failed words left before now (inl none) = absurd (cc)
failed words left before now (inr is) = failed-by (asked_by words) left before now is

-- a read fault is the status only where it is due, and so where one was counted
pub reading-failed : (words : List (List ℕ)) (left : Option (List ℕ)) (before now : ℕ) (decided : Due)
    (result : Result ⊤ WriteFault) (outcome : Outcome)
    → IsDue words left before now decided → outcome ≡ outcome_of decided result → outcome.status ≡ status.ReadFault
    → HasRisen before now
reading-failed words left before now decided result outcome is_due is fault =
    failed words left before now (subst (IsDue words left before now)
    (read_fault_is_due decided result outcome is fault) is_due)

-- Writing

-- a write fault is the status of no run
run-written : (ending : Ending) → status_of_run ending ≡ status.WriteFault → ⊥
run-written Idle e = cc
run-written Cut e = cc
run-written (Second processor) e = cc
run-written (Lost process) e = cc

-- a write fault is the status where writing failed, and nowhere else
write-fault-only : (decided : Due) (result : Result ⊤ WriteFault)
    → (outcome_of decided result).status ≡ status.WriteFault → IsErr result
write-fault-only due.Usage (Ok done) e = absurd (cc)
write-fault-only due.ReadFault (Ok done) e = absurd (cc)
write-fault-only (due.NoMemory _) (Ok done) e = absurd (cc)
write-fault-only (due.DeckRefused fault) (Ok done) e = absurd (cc)
write-fault-only (due.ProgramRefused refused) (Ok done) e = absurd (cc)
write-fault-only (due.Accepted site) (Ok done) e = absurd (cc)
write-fault-only (due.Swept rows) (Ok done) e = absurd (cc)
write-fault-only (due.Verified n) (Ok done) e = absurd (cc)
write-fault-only (due.Rejected line cause) (Ok done) e = absurd (cc)
write-fault-only (due.Advised advised) (Ok done) e = absurd (cc)
write-fault-only (due.Unadvised refused) (Ok done) e = absurd (cc)
write-fault-only (due.Report report) (Ok done) e = absurd (run-written report.run.ran.ending e)
write-fault-only decided (Err fault) e = refl

failed-writing : (decided : Due) (result : Result ⊤ WriteFault) (outcome : Outcome)
    → outcome ≡ outcome_of decided result
    → outcome.status ≡ status.WriteFault → IsErr result
failed-writing decided result outcome is e = write-fault-only decided result (sym (ap (λ o. o.status) is) ∙ e)

on-failure : {P : Type 0} (result : Result ⊤ WriteFault) → OnErr result P → IsErr result → P
on-failure (Ok done) cause failed = absurd (cc)
on-failure (Err fault) cause failed = cause

not-both : (result : Result ⊤ WriteFault) → IsOk result → IsErr result → ⊥
not-both (Ok done) fine failed = cc
not-both (Err fault) fine failed = cc

pub writing-failed : {K : Type 0} (held : K → Option (List ℕ)) (faults : K → ℕ) (sure : K → ℕ → Type 0) (old new : K)
    (decided : Due) (outcome : Outcome)
    → IsWritten held faults sure old new decided outcome → outcome.status ≡ status.WriteFault
    → HasRisen (faults old) (faults new)
writing-failed held faults sure old new decided outcome is fault =
    on-failure is.result is.puts.cause (failed-writing decided is.result outcome is.is fault)

pub writing-is-sure : {K : Type 0} (held : K → Option (List ℕ)) (faults : K → ℕ) (sure : K → ℕ → Type 0) (old new : K)
    (decided : Due) (outcome : Outcome)
    → IsWritten held faults sure old new decided outcome → sure old (length (text_of decided))
    → outcome.status ≢ status.WriteFault
writing-is-sure held faults sure old new decided outcome is able fault =
    not-both is.result (is.puts.never 0 (subst (sure old) (more (length (text_of decided))) able)).0
    (failed-writing decided is.result outcome is.is fault)
  where
    more : (n : ℕ) → n ≡ n + 0
    more n = omega arith
