-- What a command decides before it writes anything.
use Rattle.std.specs.Prelude.{◌≡◌, ◌⊎◌, ℕ, Bool, true, false, List, Option, Some, None}
use Rattle.gd_words.specs.Memory.{no_memory}
use Rattle.tal_tree.specs.declared.fault.DeckFault.{DeckFault}
use Rattle.tal_tree.specs.declared.fault.DeckFault.TheVariants.{TooLong, NoMemory}
use Rattle.command_words.specs.Asked.{asked_by}
use Rattle.command_words.specs.declared.asked.Command.{Command}
use Rattle.command_words.specs.declared.asked.Command.TheVariants as command
use Rattle.gd_io.specs.Faults.{HasRisen}
use Rattle.deck_reader.specs.Decks.{Decks}
use Rattle.deck_reader.specs.Refusals.{IsRefusalOf}
use Rattle.deck_reader.specs.declared.deck.Deck.{Deck}
use Rattle.load_deck.specs.LoadText.{load_text}
use Rattle.player.specs.declared.stop.ProcessorStop.{ProcessorStop}
use Rattle.plain_semantics.specs.Machine.{IsPossible, IsNoneLeft, shown_by}
use Rattle.schedule_sweeps.specs.packet_runs.specs.Ends.{IsRunOf}
use Rattle.schedule_loop.specs.declared.ran.Ending.TheVariants.{Idle}
use Rattle.schedule_sweeps.specs.Sweeps.{IsSweepOf}
use Rattle.shown_sectors.specs.Sectors.{sectors_after}
use Rattle.report_judge.specs.site_advice.specs.SiteAdvised.{AreAdvised, IsFirstUnadvised}
use Rattle.report_judge.specs.verdicts.specs.Refused.{AreAccepted, IsFirstRefused}
use Rattle.command_dues.specs.RunEnds.{acts_of_run, shown_in}
use Rattle.command_dues.specs.Mirrors.{mirrors_from}
use Rattle.schedule_sweeps.specs.site_machine.specs.Stopped.{stopped_from}
use Rattle.command_dues.specs.Tasks.{can_stop, judges, load_task}
use Rattle.command_dues.specs.Verified.{IsDueOfInput}
use Rattle.command_dues.specs.declared.due.Due.{Due}
use Rattle.command_dues.specs.declared.due.Due.TheVariants as due
use Rattle.command_dues.specs.declared.due.Report.{Report}
use Rattle.command_dues.specs.declared.task.Task.{Task}
use Rattle.command_dues.specs.declared.task.Task.TheVariants as task
use Rattle.command_dues.specs.declared.task.Telling.{Telling}
use Rattle.command_dues.specs.declared.task.Telling.TheVariants as telling

-- some bytes spell the deck
abbrev pub IsSpelt : Deck → Type 0
IsSpelt deck = (bytes : List ℕ) × Decks bytes deck

-- the run of a deck, after Bartlett's paper: it is a run of the schedule, with the stop of the words, on the machine
-- over packets; the acts that it keeps are possible on the machine of single unfailing processes; what it shows, in
-- order, is what they show there; where it ended idle no act is possible after them; the sectors are those that what is
-- shown leaves written; the drives of mirrored discs stand as at its end; and the processors that have stopped are
-- those of its world at the end
pub record IsReportOf (deck : Deck) (stop : Option ProcessorStop) (report : Report) : Type 0 where
  pub site : report.site ≡ deck.site
  pub run : IsRunOf deck.site deck.lines stop report.run.ran
  pub possible : IsPossible deck.site (acts_of_run report.run)
  pub shown : shown_in report.run ≡ shown_by deck.site (acts_of_run report.run)
  pub none : report.run.ran.ending ≡ Idle → IsNoneLeft deck.site (acts_of_run report.run)
  pub sectors : report.sectors ≡ sectors_after deck.site (shown_in report.run)
  pub mirrors : report.mirrors ≡ mirrors_from 0 deck.site.processes report.run.ran.machine.state.drives
  pub stopped : report.stopped ≡ stopped_from 0 report.run.ran.machine.state.world.stopped

-- what is due of a deck that is run: the report of its run, which is to tell so of it
abbrev pub IsDueOfRun : Deck → Option ProcessorStop → Telling → Due → Type 0
IsDueOfRun deck stop tells (due.Report report) = IsReportOf deck stop report × (report.tells ≡ tells)
IsDueOfRun deck stop tells (due.NoMemory _) = Unit {0}
IsDueOfRun deck stop tells _ = ⊥

-- what is due of a deck that is swept: the row of each of its processors
abbrev pub IsDueOfSweep : Deck → ℕ → Due → Type 0
IsDueOfSweep deck runs (due.Swept rows) = IsSweepOf deck.site deck.lines runs rows
IsDueOfSweep deck runs (due.NoMemory _) = Unit {0}
IsDueOfSweep deck runs _ = ⊥

-- what is due of a deck for whose programs advice is asked: that for each, or the first for which there is none
abbrev pub IsDueOfAdvice : Deck → Due → Type 0
IsDueOfAdvice deck (due.Advised advised) =
    (advised.site ≡ deck.site) × AreAdvised deck.site.processes advised.pairs
IsDueOfAdvice deck (due.Unadvised refused) =
    (refused.site ≡ deck.site) × IsFirstUnadvised deck.site.processes refused.found
IsDueOfAdvice deck (due.NoMemory _) = Unit {0}
IsDueOfAdvice deck _ = ⊥

-- what is due of a deck whose programs are all accepted, where they have to be, by what is to be done with it
abbrev pub IsDueOfTask : Task → Deck → Due → Type 0
IsDueOfTask (task.Run tells stop) deck decided = IsDueOfRun deck stop tells decided
IsDueOfTask task.Check deck decided = decided ≡ due.Accepted deck.site
IsDueOfTask (task.Sweep runs) deck decided = IsDueOfSweep deck runs decided
IsDueOfTask task.Advise deck decided = IsDueOfAdvice deck decided

-- what is due of the programs of a deck: the first that is refused, or else what is due by what is to be done, and then
-- all are accepted; where they needn't be, just that
abbrev pub IsDueOfPrograms : Task → Deck → Due → Type 0
IsDueOfPrograms task deck (due.ProgramRefused refused) =
    (refused.site ≡ deck.site) × IsFirstRefused deck.site.processes refused.found × (judges task ≡ true)
IsDueOfPrograms task deck (due.NoMemory _) = Unit {0}
IsDueOfPrograms task deck decided =
    (judges task ≡ true → AreAccepted deck.site.processes) × IsDueOfTask task deck decided

-- what is due of a deck: the usage where a processor is to stop that it hasn't, else what is due of its programs
abbrev pub IsDueOfDeck : Task → Deck → Due → Type 0
IsDueOfDeck task deck due.Usage = can_stop task deck.site ≡ false
IsDueOfDeck task deck decided = (can_stop task deck.site ≡ true) × IsDueOfPrograms task deck decided

-- what is due where a deck is refused for a fault, or memory ran out
abbrev pub due_of_fault : DeckFault → Due
due_of_fault (NoMemory memory) = due.NoMemory memory
due_of_fault fault = due.DeckRefused fault

-- what is due of bytes
abbrev pub IsDueOfBytes : Task → List ℕ → Due → Type 0
IsDueOfBytes task bytes (due.DeckRefused fault) = IsRefusalOf bytes fault
IsDueOfBytes task bytes (due.NoMemory _) = Unit {0}
IsDueOfBytes task bytes decided = (deck : Deck) × Decks bytes deck × IsDueOfDeck task deck decided

-- what there is is what was told, where it was told
abbrev pub IsTold : {X : Type 0} → Option X → X → Type 0
IsTold None there = Unit {0}
IsTold (Some told) there = told ≡ there

-- what is due of a source, whose count of faults stood and stands so
abbrev pub IsDueOfSource : Task → Option (List ℕ) → ℕ → ℕ → Due → Type 0
IsDueOfSource task left before now due.ReadFault = HasRisen before now
IsDueOfSource task left before now (due.NoMemory _) = Unit {0}
IsDueOfSource task left before now decided = (bytes : List ℕ) × IsTold left bytes × IsDueOfBytes task bytes decided

-- what is due of a source of a deck and a report
abbrev pub IsDueOfVerify : Option (List ℕ) → ℕ → ℕ → Due → Type 0
IsDueOfVerify left before now due.ReadFault = HasRisen before now
IsDueOfVerify left before now (due.NoMemory _) = Unit {0}
IsDueOfVerify left before now decided = (bytes : List ℕ) × IsTold left bytes × IsDueOfInput bytes decided

-- what is due by a command: of the deck that is read, with the report that follows it, or of the load deck, whose text
-- is read as any other
abbrev pub IsDueOfCommand : Command → Option (List ℕ) → ℕ → ℕ → Due → Type 0
IsDueOfCommand (command.Run acts stop) left before now decided =
    IsDueOfSource (task.Run (telling.Lines acts) stop) left before now decided
IsDueOfCommand command.Check left before now decided = IsDueOfSource task.Check left before now decided
IsDueOfCommand (command.Sweep runs) left before now decided = IsDueOfSource (task.Sweep runs) left before now decided
IsDueOfCommand command.Verify left before now decided = IsDueOfVerify left before now decided
IsDueOfCommand command.Advise left before now decided = IsDueOfSource task.Advise left before now decided
IsDueOfCommand (command.Load requests) left before now decided =
    IsDueOfBytes (load_task requests) (load_text requests) decided

-- what is due by what is asked for: the usage where that is nothing
abbrev pub IsDueOn : Option Command → Option (List ℕ) → ℕ → ℕ → Due → Type 0
IsDueOn None left before now decided = decided ≡ due.Usage
IsDueOn (Some asked) left before now decided = IsDueOfCommand asked left before now decided

-- what is due: that memory ran out, or what is due by what the words ask for, the program's name first
abbrev pub IsDue : List (List ℕ) → Option (List ℕ) → ℕ → ℕ → Due → Type 0
IsDue words left before now decided =
    (decided ≡ due.NoMemory no_memory) ⊎ IsDueOn (asked_by words) left before now decided

-- whether a deck is read for what is asked: not where that is nothing, or a load, whose deck is made
abbrev pub reads_deck : Option Command → Bool
reads_deck None = false
reads_deck (Some (command.Run acts stop)) = true
reads_deck (Some command.Check) = true
reads_deck (Some (command.Load requests)) = false
reads_deck (Some (command.Sweep runs)) = true
reads_deck (Some command.Verify) = true
reads_deck (Some command.Advise) = true

-- what is due only once the deck, and the report that follows it, was read to its end: a report, a sweep, advice or a
-- verdict, a refusal for what the deck says, or the usage, where the deck hasn't the processor that is to stop
abbrev pub IsOfWholeDeck : Due → Type 0
IsOfWholeDeck due.Usage = Unit {0}
IsOfWholeDeck (due.Report report) = Unit {0}
IsOfWholeDeck (due.ProgramRefused refused) = Unit {0}
IsOfWholeDeck (due.Accepted site) = Unit {0}
IsOfWholeDeck (due.Swept rows) = Unit {0}
IsOfWholeDeck (due.Verified acts) = Unit {0}
IsOfWholeDeck (due.Rejected line cause) = Unit {0}
IsOfWholeDeck (due.Advised advised) = Unit {0}
IsOfWholeDeck (due.Unadvised refused) = Unit {0}
IsOfWholeDeck (due.DeckRefused TooLong) = ⊥
IsOfWholeDeck (due.DeckRefused fault) = Unit {0}
IsOfWholeDeck _ = ⊥
