-- What is due by words, and how a command of them ends.
use Rattle.std.proofs.Common.{◌≡◌, ◌≢◌, ◌⊎◌, inl, inr, ℕ, true, List, Option, Some, None, refl, subst, sym, ap, ◌∙◌}
use Rattle.std.specs.Prelude.{⊤, Bool, IfSome, Result, Ok, Err}
use Rattle.gd_words.specs.Memory.{no_memory}
use Rattle.command_words.specs.Asked.{IsInRange, asked_by}
use Rattle.command_words.specs.declared.asked.Command.{Command}
use Rattle.command_words.specs.declared.asked.Command.TheVariants.{Check, Load, Run, Sweep}
use Rattle.command_words.proofs.Ranges.{asked_in_range}
use Rattle.deck_reader.specs.Decks.{Decks}
use Rattle.deck_reader.specs.declared.deck.Deck.{Deck}
use Rattle.gd_io.specs.declared.writing.WriteFault.{WriteFault}
use Rattle.load_deck.specs.LoadText.{load_text}
use Rattle.load_laws.specs.LoadDeck.{load_deck}
use Rattle.load_laws.proofs.Accepted.{load-accepted}
use Rattle.load_laws.proofs.Decked.{load-decks}
use Rattle.player.specs.declared.stop.ProcessorStop.{ProcessorStop}
use Rattle.schedule_loop.specs.declared.ran.Ending.{Ending}
use Rattle.schedule_loop.specs.declared.ran.Ending.TheVariants as ending
use Rattle.verdicts.specs.Refused.{AreAccepted}
use Rattle.command_dues.specs.Decided.{IsDue, IsDueOfRun, IsDueOfSweep, IsDueOn}
use Rattle.command_dues.specs.RunEnds.{status_of_run}
use Rattle.command_dues.specs.Tasks.{can_stop, load_task}
use Rattle.command_dues.specs.Written.{outcome_of, status_of}
use Rattle.command_dues.specs.declared.due.Due.{Due}
use Rattle.command_dues.specs.declared.due.Due.TheVariants as due
use Rattle.command_dues.specs.declared.outcome.Outcome.{Outcome}
use Rattle.command_dues.specs.declared.outcome.Status.TheVariants as status
use Rattle.command_dues.specs.declared.task.Task.TheVariants as task
use Rattle.command_dues.specs.declared.task.Telling.{Telling}
use Rattle.command_dues.specs.declared.task.Telling.TheVariants.{Counts, Lines}
use Rattle.command_laws.specs.RunStatus.{IsStatusOfCheck, IsStatusOfRun}
use Rattle.command_laws.proofs.Accepted.{IsGood, of-bytes, of-source}

good-run : (deck : Deck) (stop : Option ProcessorStop) (tells : Telling) (decided : Due)
    → IsGood (task.Run tells stop) deck decided → IsDueOfRun deck stop tells decided
good-run deck stop tells decided (inl none) = subst (IsDueOfRun deck stop tells) (sym none) tt
good-run deck stop tells decided (inr is) = is

pub deck-run : (words : List (List ℕ)) (bytes : List ℕ) (before now : ℕ) (acts : Bool) (stop : Option ProcessorStop)
    (deck : Deck) (decided : Due)
    → asked_by words ≡ Some (Run acts stop) → Decks bytes deck → can_stop (task.Run (Lines acts) stop) deck.site ≡ true
    → AreAccepted deck.site.processes
    → IsDue words (Some bytes) before now decided → decided ≢ due.ReadFault → IsDueOfRun deck stop (Lines acts) decided
deck-run words bytes before now acts stop deck decided asked spelt able accepted (inl none) read =
    good-run deck stop (Lines acts) decided (inl none)
deck-run words bytes before now acts stop deck decided asked spelt able accepted (inr is) read =
    good-run deck stop (Lines acts) decided
    (of-source (task.Run (Lines acts) stop) deck able accepted bytes spelt before now decided
    (subst (λ (c : Option Command). IsDueOn c (Some bytes) before now decided) asked is) read)

pub deck-checked : (words : List (List ℕ)) (bytes : List ℕ) (before now : ℕ) (deck : Deck) (decided : Due)
    → asked_by words ≡ Some Check → Decks bytes deck → AreAccepted deck.site.processes
    → IsDue words (Some bytes) before now decided → decided ≢ due.ReadFault
    → (decided ≡ due.Accepted deck.site) ⊎ (decided ≡ due.NoMemory no_memory)
deck-checked words bytes before now deck decided asked spelt accepted (inl none) read = inr none
deck-checked words bytes before now deck decided asked spelt accepted (inr is) read =
    go (of-source task.Check deck refl accepted bytes spelt before now decided
    (subst (λ (c : Option Command). IsDueOn c (Some bytes) before now decided) asked is) read)
  where
    go : IsGood task.Check deck decided → (decided ≡ due.Accepted deck.site) ⊎ (decided ≡ due.NoMemory no_memory)
    go (inl none) = inr none
    go (inr is) = inl is

good-sweep : (deck : Deck) (runs : ℕ) (decided : Due) → IsGood (task.Sweep runs) deck decided
    → IsDueOfSweep deck runs decided
good-sweep deck runs decided (inl none) = subst (IsDueOfSweep deck runs) (sym none) tt
good-sweep deck runs decided (inr is) = is

pub deck-swept : (words : List (List ℕ)) (bytes : List ℕ) (before now runs : ℕ) (deck : Deck) (decided : Due)
    → asked_by words ≡ Some (Sweep runs) → Decks bytes deck → AreAccepted deck.site.processes
    → IsDue words (Some bytes) before now decided → decided ≢ due.ReadFault → IsDueOfSweep deck runs decided
deck-swept words bytes before now runs deck decided asked spelt accepted (inl none) read =
    good-sweep deck runs decided (inl none)
deck-swept words bytes before now runs deck decided asked spelt accepted (inr is) read =
    good-sweep deck runs decided
    (of-source (task.Sweep runs) deck refl accepted bytes spelt before now decided
    (subst (λ (c : Option Command). IsDueOn c (Some bytes) before now decided) asked is) read)

pub load-run : (words : List (List ℕ)) (left : Option (List ℕ)) (before now count : ℕ) (decided : Due)
    → asked_by words ≡ Some (Load count)
    → IsDue words left before now decided → IsDueOfRun (load_deck count) None (Counts count) decided
load-run words left before now count decided asked (inl none) =
    good-run (load_deck count) None (Counts count) decided (inl none)
load-run words left before now count decided asked (inr is) =
    let few = (subst (λ (c : Option Command). IfSome c IsInRange) asked (asked_in_range words)).1 in
    good-run (load_deck count) None (Counts count) decided
    (of-bytes (load_task count) (load_deck count) refl (load-accepted count) (load_text count) (load-decks count few)
    decided
    (subst (λ (c : Option Command). IsDueOn c left before now decided) asked is))

-- Statuses

ended : (how : Ending) → IsStatusOfRun (status_of_run how)
ended ending.Idle = tt
ended ending.Cut = tt
ended (ending.Second processor) = tt
ended (ending.Lost process) = tt

run-status : (deck : Deck) (stop : Option ProcessorStop) (tells : Telling) (decided : Due)
    → IsDueOfRun deck stop tells decided → IsStatusOfRun (status_of decided)
run-status deck stop tells (due.Report report) is = ended report.run.ran.ending
run-status deck stop tells (due.NoMemory _) is = tt
run-status deck stop tells _ is = absurd is

run-ends : (deck : Deck) (stop : Option ProcessorStop) (tells : Telling) (decided : Due) (result : Result ⊤ WriteFault)
    (outcome : Outcome)
    → IsDueOfRun deck stop tells decided → outcome ≡ outcome_of decided result → IsStatusOfRun outcome.status
run-ends deck stop tells decided (Ok done) outcome is same =
    subst (λ (o : Outcome). IsStatusOfRun o.status) (sym same) (run-status deck stop tells decided is)
run-ends deck stop tells decided (Err fault) outcome is same =
    subst (λ (o : Outcome). IsStatusOfRun o.status) (sym same) tt

-- where the status tells no read fault and all was written, none was due
none-failed : (decided : Due) (done : ⊤) (outcome : Outcome) → outcome ≡ outcome_of decided (Ok done)
    → outcome.status ≢ status.ReadFault
    → decided ≢ due.ReadFault
none-failed decided done outcome same sure read = sure (ap (λ (o : Outcome). o.status) same ∙ ap status_of read)

pub deck-ends : (words : List (List ℕ)) (bytes : List ℕ) (before now : ℕ) (acts : Bool) (stop : Option ProcessorStop)
    (deck : Deck) (decided : Due)
    (result : Result ⊤ WriteFault) (outcome : Outcome)
    → asked_by words ≡ Some (Run acts stop) → Decks bytes deck → can_stop (task.Run (Lines acts) stop) deck.site ≡ true
    → AreAccepted deck.site.processes
    → IsDue words (Some bytes) before now decided → outcome ≡ outcome_of decided result
    → outcome.status ≢ status.ReadFault → IsStatusOfRun outcome.status
deck-ends words bytes before now acts stop deck decided (Err fault) outcome asked spelt able accepted is same sure =
    subst (λ (o : Outcome). IsStatusOfRun o.status) (sym same) tt
deck-ends words bytes before now acts stop deck decided (Ok done) outcome asked spelt able accepted is same sure =
    run-ends deck stop (Lines acts) decided (Ok done) outcome
    (deck-run words bytes before now acts stop deck decided asked spelt able accepted is
    (none-failed decided done outcome same sure)) same

pub load-ends : (words : List (List ℕ)) (left : Option (List ℕ)) (before now count : ℕ) (decided : Due)
    (result : Result ⊤ WriteFault) (outcome : Outcome)
    → asked_by words ≡ Some (Load count) → IsDue words left before now decided → outcome ≡ outcome_of decided result
    → IsStatusOfRun outcome.status
load-ends words left before now count decided result outcome asked is same =
    run-ends (load_deck count) None (Counts count) decided result outcome
    (load-run words left before now count decided asked is) same

checked-status : (decided : Due) (deck : Deck)
    → (decided ≡ due.Accepted deck.site) ⊎ (decided ≡ due.NoMemory no_memory) → IsStatusOfCheck (status_of decided)
checked-status decided deck (inl is) = subst (λ (d : Due). IsStatusOfCheck (status_of d)) (sym is) tt
checked-status decided deck (inr none) = subst (λ (d : Due). IsStatusOfCheck (status_of d)) (sym none) tt

pub check-ends : (words : List (List ℕ)) (bytes : List ℕ) (before now : ℕ) (deck : Deck) (decided : Due)
    (result : Result ⊤ WriteFault) (outcome : Outcome)
    → asked_by words ≡ Some Check → Decks bytes deck → AreAccepted deck.site.processes
    → IsDue words (Some bytes) before now decided → outcome ≡ outcome_of decided result
    → outcome.status ≢ status.ReadFault → IsStatusOfCheck outcome.status
check-ends words bytes before now deck decided (Err fault) outcome asked spelt accepted is same sure =
    subst (λ (o : Outcome). IsStatusOfCheck o.status) (sym same) tt
check-ends words bytes before now deck decided (Ok done) outcome asked spelt accepted is same sure =
    subst (λ (o : Outcome). IsStatusOfCheck o.status) (sym same)
    (checked-status decided deck (deck-checked words bytes before now deck decided asked spelt accepted is
    (none-failed decided done outcome same sure)))

swept-status : (deck : Deck) (runs : ℕ) (decided : Due) → IsDueOfSweep deck runs decided
    → IsStatusOfCheck (status_of decided)
swept-status deck runs (due.Swept rows) is = tt
swept-status deck runs (due.NoMemory _) is = tt
swept-status deck runs _ is = absurd is

pub sweep-ends : (words : List (List ℕ)) (bytes : List ℕ) (before now runs : ℕ) (deck : Deck) (decided : Due)
    (result : Result ⊤ WriteFault) (outcome : Outcome)
    → asked_by words ≡ Some (Sweep runs) → Decks bytes deck → AreAccepted deck.site.processes
    → IsDue words (Some bytes) before now decided → outcome ≡ outcome_of decided result
    → outcome.status ≢ status.ReadFault → IsStatusOfCheck outcome.status
sweep-ends words bytes before now runs deck decided (Err fault) outcome asked spelt accepted is same sure =
    subst (λ (o : Outcome). IsStatusOfCheck o.status) (sym same) tt
sweep-ends words bytes before now runs deck decided (Ok done) outcome asked spelt accepted is same sure =
    subst (λ (o : Outcome). IsStatusOfCheck o.status) (sym same)
    (swept-status deck runs decided (deck-swept words bytes before now runs deck decided asked spelt accepted is
    (none-failed decided done outcome same sure)))
