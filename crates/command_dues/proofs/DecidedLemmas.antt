-- What is decided, and what the outcome tells of it.
use Rattle.std.proofs.Common.{◌≡◌, ℕ, true, List, Option, Some, None, Result, Ok, Err, sym, subst, ap, ◌∙◌, refl}
use Rattle.std.specs.Prelude.{◌≢◌, ⊤}
use Rattle.gd_words.specs.Memory.{no_memory}
use Rattle.deck_reader.specs.Decks.{Decks}
use Rattle.deck_reader.specs.Refusals.{IsRefusalOf}
use Rattle.deck_reader.specs.declared.deck.Deck.{Deck}
use Rattle.report_judge.specs.verdicts.specs.Refused.{AreAccepted}
use Rattle.gd_io.specs.Reads.{Leaves}
use Rattle.gd_io.specs.declared.writing.WriteFault.{WriteFault}
use Rattle.schedule_loop.specs.declared.ran.Ending.{Ending}
use Rattle.schedule_loop.specs.declared.ran.Ending.TheVariants.{Idle, Cut, Second, Lost}
use Rattle.tal_tree.specs.declared.fault.DeckFault.{DeckFault}
use Rattle.tal_tree.specs.declared.fault.DeckFault.TheVariants as fault
use Rattle.tal_tree.specs.declared.fault.TalFault.{TalFault}
use Rattle.tal_tree.specs.declared.fault.TalFault.TheVariants as tal
use Rattle.report_judge.specs.trace_print.specs.FaultLine.{IsOfDeck}
use Rattle.report_judge.specs.trace_print.specs.TalNumbers.{IsOfText}
use Rattle.command_dues.specs.Decided.{IsTold, IsDueOfTask, IsDueOfBytes, IsDueOfDeck, IsDueOfPrograms, IsDueOfSource}
use Rattle.command_dues.specs.Decided.{due_of_fault}
use Rattle.command_dues.specs.RunEnds.{status_of_run}
use Rattle.command_dues.specs.Tasks.{can_stop, judges}
use Rattle.command_dues.specs.Written.{outcome_of, CanBeWritten}
use Rattle.command_dues.specs.declared.due.Due.{Due}
use Rattle.command_dues.specs.declared.due.Due.TheVariants as due
use Rattle.command_dues.specs.declared.outcome.Outcome.{Outcome}
use Rattle.command_dues.specs.declared.outcome.Status.TheVariants as status
use Rattle.command_dues.specs.declared.task.Task.{Task}
use Rattle.command_dues.specs.declared.task.Task.TheVariants as task

-- the bytes that were read are those that were told
pub told : (left now : Option (List ℕ)) (bytes rest : List ℕ) → Leaves left now bytes rest → IsTold left bytes
told None now bytes rest h = tt
told (Some xs) now bytes rest h = h.0

-- what a program is refused for is told, if it isn't that memory ran out
of_text : (why : TalFault) → why ≢ tal.NoMemory no_memory → IsOfText why
of_text (tal.NoMemory _) memory = absurd (memory refl)
of_text _ memory = tt

-- why bytes are refused is due
pub fault_is_due : (task : Task) (bytes : List ℕ) (f : DeckFault)
    → (f ≢ fault.NoMemory no_memory → IsRefusalOf bytes f) → IsDueOfBytes task bytes (due_of_fault f)
fault_is_due task bytes (fault.NoMemory _) refused = tt
fault_is_due task bytes f refused = refused (λ e. absurd (cc))

-- why bytes are refused has a line
has_line : (bytes : List ℕ) (f : DeckFault) → IsRefusalOf bytes f
    → ((number : ℕ) → f ≢ fault.Program number (tal.NoMemory no_memory)) → IsOfDeck f
has_line bytes (fault.Program number why) refused memory =
    of_text why (λ e. memory number (ap (fault.Program number) e))
has_line bytes (fault.NoMemory _) refused memory = absurd refused
has_line bytes _ refused memory = tt

pub fault_is_written : (bytes : List ℕ) (f : DeckFault) → (f ≢ fault.NoMemory no_memory → IsRefusalOf bytes f)
    → ((number : ℕ) → f ≢ fault.Program number (tal.NoMemory no_memory)) → CanBeWritten (due_of_fault f)
fault_is_written bytes (fault.NoMemory _) refused memory = tt
fault_is_written bytes f refused memory = has_line bytes f (refused (λ e. absurd (cc))) memory

-- a read fault is the status of no run
run_read : (ending : Ending) → status_of_run ending ≡ status.ReadFault → ⊥
run_read Idle e = cc
run_read Cut e = cc
run_read (Second processor) e = cc
run_read (Lost process) e = cc

-- a read fault is the status of no other decision
read_fault_only : (decided : Due) (result : Result ⊤ WriteFault)
    → (outcome_of decided result).status ≡ status.ReadFault → decided ≡ due.ReadFault
read_fault_only due.Usage (Ok done) e = absurd (cc)
read_fault_only due.ReadFault (Ok done) e = refl
read_fault_only (due.NoMemory _) (Ok done) e = absurd (cc)
read_fault_only (due.DeckRefused fault) (Ok done) e = absurd (cc)
read_fault_only (due.ProgramRefused refused) (Ok done) e = absurd (cc)
read_fault_only (due.Accepted site) (Ok done) e = absurd (cc)
read_fault_only (due.Swept rows) (Ok done) e = absurd (cc)
read_fault_only (due.Verified n) (Ok done) e = absurd (cc)
read_fault_only (due.Rejected line cause) (Ok done) e = absurd (cc)
read_fault_only (due.Advised advised) (Ok done) e = absurd (cc)
read_fault_only (due.Unadvised refused) (Ok done) e = absurd (cc)
read_fault_only (due.Report report) (Ok done) e = absurd (run_read report.run.ran.ending e)
read_fault_only decided (Err fault) e = absurd (cc)

pub read_fault_is_due : (decided : Due) (result : Result ⊤ WriteFault) (outcome : Outcome)
    → outcome ≡ outcome_of decided result
    → outcome.status ≡ status.ReadFault → decided ≡ due.ReadFault
read_fault_is_due decided result outcome is e = read_fault_only decided result (sym (ap (λ o. o.status) is) ∙ e)

-- what is due of a deck whose programs are all accepted, where they have to be
pub accepted_is_due : (task : Task) (deck : Deck) (decided : Due)
    → (judges task ≡ true → AreAccepted deck.site.processes)
    → IsDueOfTask task deck decided
    → IsDueOfPrograms task deck decided
accepted_is_due (task.Run acts stop) deck (due.ProgramRefused refused) accepted is = absurd is
accepted_is_due task.Check deck (due.ProgramRefused refused) accepted is = absurd (cc)
accepted_is_due (task.Sweep runs) deck (due.ProgramRefused refused) accepted is = absurd is
accepted_is_due task.Advise deck (due.ProgramRefused refused) accepted is = absurd is
accepted_is_due task deck (due.NoMemory _) accepted is = tt
accepted_is_due task deck due.Usage accepted is = (accepted, is)
accepted_is_due task deck due.ReadFault accepted is = (accepted, is)
accepted_is_due task deck (due.DeckRefused fault) accepted is = (accepted, is)
accepted_is_due task deck (due.Accepted site) accepted is = (accepted, is)
accepted_is_due task deck (due.Report report) accepted is = (accepted, is)
accepted_is_due task deck (due.Swept rows) accepted is = (accepted, is)
accepted_is_due task deck (due.Verified n) accepted is = (accepted, is)
accepted_is_due task deck (due.Rejected line cause) accepted is = (accepted, is)
accepted_is_due task deck (due.Advised advised) accepted is = (accepted, is)
accepted_is_due task deck (due.Unadvised refused) accepted is = (accepted, is)

-- the usage, a read fault or a fault of the deck is due of no accepted programs
no_usage : (task : Task) (deck : Deck) → IsDueOfTask task deck due.Usage → ⊥
no_usage (task.Run acts stop) deck is = is
no_usage task.Check deck is = cc
no_usage (task.Sweep runs) deck is = is
no_usage task.Advise deck is = is

no_read_fault : (task : Task) (deck : Deck) → IsDueOfTask task deck due.ReadFault → ⊥
no_read_fault (task.Run acts stop) deck is = is
no_read_fault task.Check deck is = cc
no_read_fault (task.Sweep runs) deck is = is
no_read_fault task.Advise deck is = is

no_deck_fault : (task : Task) (deck : Deck) (f : DeckFault) → IsDueOfTask task deck (due.DeckRefused f) → ⊥
no_deck_fault (task.Run acts stop) deck f is = is
no_deck_fault task.Check deck f is = cc
no_deck_fault (task.Sweep runs) deck f is = is
no_deck_fault task.Advise deck f is = is

-- what is due of the programs of a deck on which the stop can be made
pub programs_are_due : (task : Task) (deck : Deck) (decided : Due) → can_stop task deck.site ≡ true
    → IsDueOfPrograms task deck decided
    → IsDueOfDeck task deck decided
programs_are_due task deck due.Usage can is = absurd (no_usage task deck is.1)
programs_are_due task deck (due.NoMemory _) can is = (can, is)
programs_are_due task deck due.ReadFault can is = (can, is)
programs_are_due task deck (due.DeckRefused fault) can is = (can, is)
programs_are_due task deck (due.ProgramRefused refused) can is = (can, is)
programs_are_due task deck (due.Accepted site) can is = (can, is)
programs_are_due task deck (due.Report report) can is = (can, is)
programs_are_due task deck (due.Swept rows) can is = (can, is)
programs_are_due task deck (due.Verified n) can is = (can, is)
programs_are_due task deck (due.Rejected line cause) can is = (can, is)
programs_are_due task deck (due.Advised advised) can is = (can, is)
programs_are_due task deck (due.Unadvised refused) can is = (can, is)

-- what is due of the deck that bytes spell
pub deck_is_due : (task : Task) (bytes : List ℕ) (deck : Deck) (decided : Due) → Decks bytes deck
    → IsDueOfDeck task deck decided
    → IsDueOfBytes task bytes decided
deck_is_due task bytes deck (due.DeckRefused f) decks is = absurd (no_deck_fault task deck f is.1.1)
deck_is_due task bytes deck (due.NoMemory _) decks is = tt
deck_is_due task bytes deck due.Usage decks is = (deck, decks, is)
deck_is_due task bytes deck due.ReadFault decks is = (deck, decks, is)
deck_is_due task bytes deck (due.ProgramRefused refused) decks is = (deck, decks, is)
deck_is_due task bytes deck (due.Accepted site) decks is = (deck, decks, is)
deck_is_due task bytes deck (due.Report report) decks is = (deck, decks, is)
deck_is_due task bytes deck (due.Swept rows) decks is = (deck, decks, is)
deck_is_due task bytes deck (due.Verified n) decks is = (deck, decks, is)
deck_is_due task bytes deck (due.Rejected line cause) decks is = (deck, decks, is)
deck_is_due task bytes deck (due.Advised advised) decks is = (deck, decks, is)
deck_is_due task bytes deck (due.Unadvised refused) decks is = (deck, decks, is)

-- no read fault is due of bytes
bytes_are_read : (task : Task) (bytes : List ℕ) → IsDueOfBytes task bytes due.ReadFault → ⊥
bytes_are_read task bytes is = no_read_fault task is.0 is.2.1.1

pub not_read_fault : (task : Task) (bytes : List ℕ) (decided : Due) → IsDueOfBytes task bytes decided
    → decided ≢ due.ReadFault
not_read_fault task bytes decided is e = bytes_are_read task bytes (subst (IsDueOfBytes task bytes) e is)

-- what is due of the bytes of a source
pub bytes_are_due : (task : Task) (left : Option (List ℕ)) (before now : ℕ) (bytes : List ℕ) (decided : Due)
    → IsTold left bytes → IsDueOfBytes task bytes decided
    → IsDueOfSource task left before now decided
bytes_are_due task left before now bytes due.ReadFault told is = absurd (bytes_are_read task bytes is)
bytes_are_due task left before now bytes (due.NoMemory _) told is = tt
bytes_are_due task left before now bytes due.Usage told is = (bytes, told, is)
bytes_are_due task left before now bytes (due.DeckRefused f) told is = (bytes, told, is)
bytes_are_due task left before now bytes (due.ProgramRefused refused) told is = (bytes, told, is)
bytes_are_due task left before now bytes (due.Accepted site) told is = (bytes, told, is)
bytes_are_due task left before now bytes (due.Report report) told is = (bytes, told, is)
bytes_are_due task left before now bytes (due.Swept rows) told is = (bytes, told, is)
bytes_are_due task left before now bytes (due.Verified n) told is = (bytes, told, is)
bytes_are_due task left before now bytes (due.Rejected line cause) told is = (bytes, told, is)
bytes_are_due task left before now bytes (due.Advised advised) told is = (bytes, told, is)
bytes_are_due task left before now bytes (due.Unadvised refused) told is = (bytes, told, is)
