-- What is due of a deck and the report that follows it.
use Rattle.std.proofs.Common.{◌≢◌, ◌≤◌, ℕ, List, Option, length, inr, subst}
use Rattle.gd_words.specs.Memory.{no_memory}
use Rattle.deck_reader.specs.Decks.{Decks}
use Rattle.deck_reader.specs.Refusals.{IsRefusalOf}
use Rattle.deck_reader.specs.declared.deck.Deck.{Deck}
use Rattle.tal_tree.specs.declared.fault.DeckFault.{DeckFault}
use Rattle.tal_tree.specs.declared.fault.DeckFault.TheVariants as fault
use Rattle.report_judge.specs.verdicts.specs.Refused.{AreAccepted}
use Rattle.command_dues.specs.Decided.{IsDueOfVerify, IsTold, due_of_fault}
use Rattle.command_dues.specs.Verified.{IsDueOfInput, IsDueOfJudged, IsDueOfReport, deck_in, report_in}
use Rattle.command_dues.specs.declared.due.Due.{Due}
use Rattle.command_dues.specs.declared.due.Due.TheVariants as due

-- what is due of the report of an accepted deck
pub report_is_due : (deck : Deck) (report : List ℕ) (decided : Due) → AreAccepted deck.site.processes
    → IsDueOfReport deck.site report decided
    → IsDueOfJudged deck report decided
report_is_due deck report (due.Verified acts) accepted is = (accepted, is)
report_is_due deck report (due.Rejected line cause) accepted is = (accepted, is)
report_is_due deck report (due.NoMemory _) accepted is = tt
report_is_due deck report due.Usage accepted is = absurd is
report_is_due deck report due.ReadFault accepted is = absurd is
report_is_due deck report (due.DeckRefused f) accepted is = absurd is
report_is_due deck report (due.ProgramRefused refused) accepted is = absurd is
report_is_due deck report (due.Accepted site) accepted is = absurd is
report_is_due deck report (due.Report run) accepted is = absurd is
report_is_due deck report (due.Swept rows) accepted is = absurd is
report_is_due deck report (due.Advised advised) accepted is = absurd is
report_is_due deck report (due.Unadvised refused) accepted is = absurd is

-- what is due of the bytes that begin with a deck
pub judged_is_due : (bytes : List ℕ) (deck : Deck) (decided : Due) → length bytes ≤ 67108864
    → Decks (deck_in bytes) deck → IsDueOfJudged deck (report_in bytes) decided
    → IsDueOfInput bytes decided
judged_is_due bytes deck (due.Verified acts) few decks is = (few, deck, decks, is)
judged_is_due bytes deck (due.Rejected line cause) few decks is = (few, deck, decks, is)
judged_is_due bytes deck (due.ProgramRefused refused) few decks is = (few, deck, decks, is)
judged_is_due bytes deck (due.NoMemory _) few decks is = tt
judged_is_due bytes deck due.Usage few decks is = absurd is.1
judged_is_due bytes deck due.ReadFault few decks is = absurd is.1
judged_is_due bytes deck (due.DeckRefused f) few decks is = absurd is.1
judged_is_due bytes deck (due.Accepted site) few decks is = absurd is.1
judged_is_due bytes deck (due.Report run) few decks is = absurd is.1
judged_is_due bytes deck (due.Swept rows) few decks is = absurd is.1
judged_is_due bytes deck (due.Advised advised) few decks is = absurd is.1
judged_is_due bytes deck (due.Unadvised refused) few decks is = absurd is.1

-- why the deck is refused is due
pub input_fault_is_due : (bytes : List ℕ) (f : DeckFault) → length bytes ≤ 67108864
    → (f ≢ fault.NoMemory no_memory → IsRefusalOf (deck_in bytes) f)
    → IsDueOfInput bytes (due_of_fault f)
input_fault_is_due bytes (fault.NoMemory _) few refused = tt
input_fault_is_due bytes f few refused = inr (few, refused (λ e. absurd (cc)))

-- what is due of the bytes of a source
pub input_is_due : (left : Option (List ℕ)) (before now : ℕ) (bytes : List ℕ) (decided : Due) → IsTold left bytes
    → IsDueOfInput bytes decided
    → IsDueOfVerify left before now decided
input_is_due left before now bytes due.ReadFault told is = absurd is.3.1
input_is_due left before now bytes (due.NoMemory _) told is = tt
input_is_due left before now bytes due.Usage told is = (bytes, told, is)
input_is_due left before now bytes (due.DeckRefused f) told is = (bytes, told, is)
input_is_due left before now bytes (due.ProgramRefused refused) told is = (bytes, told, is)
input_is_due left before now bytes (due.Accepted site) told is = (bytes, told, is)
input_is_due left before now bytes (due.Report run) told is = (bytes, told, is)
input_is_due left before now bytes (due.Swept rows) told is = (bytes, told, is)
input_is_due left before now bytes (due.Advised advised) told is = (bytes, told, is)
input_is_due left before now bytes (due.Unadvised refused) told is = (bytes, told, is)
input_is_due left before now bytes (due.Verified acts) told is = (bytes, told, is)
input_is_due left before now bytes (due.Rejected line cause) told is = (bytes, told, is)

-- no read fault is due of bytes
pub no_input_fault : (bytes : List ℕ) (decided : Due) → IsDueOfInput bytes decided → decided ≢ due.ReadFault
no_input_fault bytes decided is e = fails (subst (IsDueOfInput bytes) e is)
  where
    fails : IsDueOfInput bytes due.ReadFault → ⊥
    fails h = h.3.1
