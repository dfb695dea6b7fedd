-- Where bytes spell a deck whose programs are accepted, what is due of them is no refusal.
use Rattle.std.proofs.Common.{◌≡◌, ◌≢◌, ◌⊎◌, inl, inr, ℕ, true, List, Some, refl, subst, sym}
use Rattle.std.specs.Prelude.{⊤, Result, Ok, Err}
use Rattle.gd_words.specs.Memory.{no_memory}
use Rattle.tal_tree.specs.declared.site.ProcessSpec.{ProcessSpec}
use Rattle.path_semantics.specs.declared.reason.RefusalFault.{RefusalFault}
use Rattle.path_semantics.specs.declared.reason.RefusalFault.TheVariants.{NoMemory}
use Rattle.deck_reader.specs.Decks.{Decks}
use Rattle.deck_reader.specs.declared.deck.Deck.{Deck}
use Rattle.deck_reader.proofs.OneAnswer.{no_deck, one_deck}
use Rattle.discipline.proofs.Verdicts.{accepted-ok}
use Rattle.verdicts.specs.Refused.{AreAccepted, IsFirstRefused}
use Rattle.verdicts.specs.declared.refused.RefusedProgram.{RefusedProgram}
use Rattle.command_dues.specs.Decided.{IsDueOfTask, IsDueOfBytes, IsDueOfDeck, IsDueOfSource}
use Rattle.command_dues.specs.Tasks.{can_stop}
use Rattle.command_dues.specs.declared.due.Due.{Due}
use Rattle.command_dues.specs.declared.due.Due.TheVariants as due
use Rattle.command_dues.specs.declared.task.Task.{Task}

pub only-wanting : (refusal : RefusalFault)
    → (◌≡◌ {A = Result ⊤ RefusalFault} (Err refusal) (Ok tt))
    ⊎ (◌≡◌ {A = Result ⊤ RefusalFault} (Err refusal) (Err (NoMemory no_memory))) → refusal ≡ NoMemory no_memory
only-wanting refusal (inl fine) = absurd (cc)
only-wanting refusal (inr wanting) = cc

-- of processes whose programs are accepted none is the first that is refused
none-refused : (specs : List ProcessSpec) (refused : RefusedProgram) → AreAccepted specs → IsFirstRefused specs refused
    → ⊥
none-refused specs refused accepted first =
    first.told
    (only-wanting refused.refusal
    (accepted-ok first.program (Err refused.refusal) first.verdict
    (accepted refused.process first.program first.there)))

-- what is due is what is due of accepted programs, or that memory ran out
abbrev pub IsGood : Task → Deck → Due → Type 0
IsGood task deck decided = (decided ≡ due.NoMemory no_memory) ⊎ IsDueOfTask task deck decided

module _ (task : Task) (deck : Deck) (able : can_stop task deck.site ≡ true)
    (accepted : AreAccepted deck.site.processes) where
  of-deck : (decided : Due) → IsDueOfDeck task deck decided → IsGood task deck decided
  of-deck (due.NoMemory _) is = inl refl
  of-deck due.Usage is = absurd (cc)
  of-deck (due.ProgramRefused refused) is = absurd (none-refused deck.site.processes refused.found accepted is.1.1)
  of-deck due.ReadFault is = inr is.1.1
  of-deck (due.DeckRefused fault) is = inr is.1.1
  of-deck (due.Accepted site) is = inr is.1.1
  of-deck (due.Report report) is = inr is.1.1
  of-deck (due.Swept rows) is = inr is.1.1
  of-deck (due.Verified n) is = inr is.1.1
  of-deck (due.Rejected line cause) is = inr is.1.1
  of-deck (due.Advised advised) is = inr is.1.1
  of-deck (due.Unadvised refused) is = inr is.1.1

  module _ (bytes : List ℕ) (spelt : Decks bytes deck) where
    -- a deck that the bytes spell too is the same one
    of-spelt : (other : Deck) (decided : Due) → Decks bytes other → IsDueOfDeck task other decided
        → IsGood task deck decided
    of-spelt other decided too is =
        of-deck decided (subst (λ (d : Deck). IsDueOfDeck task d decided) (one_deck bytes other deck too spelt) is)

    pub of-bytes : (decided : Due) → IsDueOfBytes task bytes decided → IsGood task deck decided
    of-bytes (due.NoMemory _) is = inl refl
    of-bytes (due.DeckRefused fault) is = absurd (no_deck bytes fault deck is spelt)
    of-bytes due.Usage (other, too, is) = of-spelt other due.Usage too is
    of-bytes due.ReadFault (other, too, is) = of-spelt other due.ReadFault too is
    of-bytes (due.Accepted site) (other, too, is) = of-spelt other (due.Accepted site) too is
    of-bytes (due.ProgramRefused refused) (other, too, is) = of-spelt other (due.ProgramRefused refused) too is
    of-bytes (due.Report report) (other, too, is) = of-spelt other (due.Report report) too is
    of-bytes (due.Swept rows) (other, too, is) = of-spelt other (due.Swept rows) too is
    of-bytes (due.Verified n) (other, too, is) = of-spelt other (due.Verified n) too is
    of-bytes (due.Rejected line cause) (other, too, is) = of-spelt other (due.Rejected line cause) too is
    of-bytes (due.Advised advised) (other, too, is) = of-spelt other (due.Advised advised) too is
    of-bytes (due.Unadvised refused) (other, too, is) = of-spelt other (due.Unadvised refused) too is

    -- what is read of a source is what it told
    of-told : (found : List ℕ) (decided : Due) → bytes ≡ found → IsDueOfBytes task found decided
        → IsGood task deck decided
    of-told found decided same is = of-bytes decided (subst (λ (b : List ℕ). IsDueOfBytes task b decided) (sym same) is)

    pub of-source : (before now : ℕ) (decided : Due) → IsDueOfSource task (Some bytes) before now decided
        → decided ≢ due.ReadFault → IsGood task deck decided
    of-source before now due.ReadFault is read = absurd (read refl)
    of-source before now (due.NoMemory _) is read = inl refl
    of-source before now due.Usage (found, told, is) read = of-told found due.Usage told is
    of-source before now (due.DeckRefused fault) (found, told, is) read = of-told found (due.DeckRefused fault) told is
    of-source before now (due.Accepted site) (found, told, is) read = of-told found (due.Accepted site) told is
    of-source before now (due.ProgramRefused refused) (found, told, is) read =
        of-told found (due.ProgramRefused refused) told is
    of-source before now (due.Report report) (found, told, is) read = of-told found (due.Report report) told is
    of-source before now (due.Swept rows) (found, told, is) read = of-told found (due.Swept rows) told is
    of-source before now (due.Verified n) (found, told, is) read = of-told found (due.Verified n) told is
    of-source before now (due.Rejected line cause) (found, told, is) read =
        of-told found (due.Rejected line cause) told is
    of-source before now (due.Advised advised) (found, told, is) read = of-told found (due.Advised advised) told is
    of-source before now (due.Unadvised refused) (found, told, is) read = of-told found (due.Unadvised refused) told is
