-- What comes of what is due, and the status.
use Rattle.std.specs.Prelude.{◌≡◌, ℕ, Bool, if◌then◌else◌, List, [], ◌∷◌, ◌++◌, codes, Option, Result, Ok, Err, ⊤}
use Rattle.deck_reader.specs.Decks.{Decks}
use Rattle.explain_decks.specs.declared.due.Due.{Due}
use Rattle.explain_decks.specs.declared.due.Due.TheVariants as due
use Rattle.explain_decks.specs.declared.due.TracedDeck.{TracedDeck}
use Rattle.explain_decks.specs.declared.status.Status.{Status}
use Rattle.explain_decks.specs.declared.status.Status.TheVariants as status
use Rattle.gd_io.specs.Puts.{Puts}
use Rattle.gd_io.specs.declared.writing.WriteFault.{WriteFault}
use Rattle.fault_text.specs.trace_print.specs.FaultLine.{IsOfDeck, fault_line}
use Rattle.explain_chart.specs.traced_decks.specs.traced_runs.specs.Traces.{Traces}
use Rattle.explain_chart.specs.traced_decks.specs.traced_runs.specs.declared.fault.TraceFault.{TraceFault}
use Rattle.explain_chart.specs.traced_decks.specs.traced_runs.specs.declared.fault.TraceFault.TheVariants as fault
use Rattle.explain_chart.specs.traced_decks.specs.traced_runs.specs.packet_runs.specs.declared.ran.Ran.{Ran}
use Rattle.verdicts.specs.Refused.{AreAccepted}

-- where the deck doesn't have the processor that is to stop
abbrev pub no_processor_line : List ℕ
no_processor_line = codes "usage: --fail P:K stops a processor P that the deck has" ++ 10 ∷ []

-- where a chart has no room for all events
abbrev pub too_long_line : List ℕ
too_long_line =
    codes "usage: a chart has room for 400 events; --from E and --to E ask for fewer" ++ 10 ∷ []

-- a deck that bytes spell, and all of whose programs are accepted
pub record CanBeRun (run : TracedDeck) : Type 0 where
  pub spelt : (bytes : List ℕ) × Decks bytes run.deck
  pub accepted : AreAccepted run.deck.site.processes

-- a fault that has a line, or a deck that can be run
abbrev pub CanBeWritten : Due → Type 0
CanBeWritten (due.Refused refused) = IsOfDeck refused.fault
CanBeWritten (due.Runs run) = CanBeRun run
CanBeWritten (due.Judged judged) = Unit {0}
CanBeWritten due.NoProcessor = Unit {0}
CanBeWritten due.ChartTooLong = Unit {0}
CanBeWritten due.ReadFault = Unit {0}
CanBeWritten (due.NoMemory memory) = Unit {0}

abbrev pub judged_status : Bool → Status
judged_status refused = if refused then status.ProgramRefused else status.Done

-- by whether the text went out whole
abbrev pub status_after : Status → Result ⊤ WriteFault → Status
status_after whole (Ok done) = whole
status_after whole (Err fault) = status.WriteFault

-- by how a run ended that was told
abbrev pub traced_status : Result Ran TraceFault → Status
traced_status (Ok ran) = status.Done
traced_status (Err (fault.Write why)) = status.WriteFault
traced_status (Err (fault.NoMemory memory)) = status.NoMemory memory

module _ {K : Type 0} (held : K → Option (List ℕ)) (failed : K → ℕ) (sure : K → ℕ → Type 0) where
  -- a text is written, and then this is the status; or a write fault comes after a part
  abbrev pub IsWritten : List ℕ → Status → K → K → Status → Type 0
  IsWritten text whole sink sink_now outcome =
      (result : Result ⊤ WriteFault) × Puts held failed sure sink sink_now text result
      × (outcome ≡ status_after whole result)

  -- a deck is run, and its events are told
  abbrev pub IsTraced : TracedDeck → K → K → Status → Type 0
  IsTraced run sink sink_now outcome =
      (result : Result Ran TraceFault)
      × Traces held failed sure sink sink_now run.deck.site run.places run.deck.lines run.stop run.manner result
      × (outcome ≡ traced_status result)

  -- what comes of what is due, and the status; nothing is written where reading failed or memory ran out
  abbrev pub Comes : Due → K → K → Status → Type 0
  Comes (due.Judged judged) sink sink_now outcome =
      IsWritten judged.told (judged_status judged.refused) sink sink_now outcome
  Comes (due.Runs run) sink sink_now outcome = IsTraced run sink sink_now outcome
  Comes due.NoProcessor sink sink_now outcome =
      IsWritten no_processor_line status.NoProcessor sink sink_now outcome
  Comes due.ChartTooLong sink sink_now outcome =
      IsWritten too_long_line status.ChartTooLong sink sink_now outcome
  Comes (due.Refused refused) sink sink_now outcome =
      IsWritten (refused.told ++ fault_line refused.fault) (status.Refused refused.fault) sink sink_now outcome
  Comes due.ReadFault sink sink_now outcome = IsWritten [] status.ReadFault sink sink_now outcome
  Comes (due.NoMemory memory) sink sink_now outcome = IsWritten [] (status.NoMemory memory) sink sink_now outcome

-- the number with which the program ends: those of `guardian`
abbrev pub status_number : Status → ℕ
status_number status.Done = 0
status_number status.NoProcessor = 1
status_number status.ChartTooLong = 1
status_number (status.Refused fault) = 2
status_number status.ProgramRefused = 3
status_number status.ReadFault = 6
status_number status.WriteFault = 7
status_number (status.NoMemory _) = 8
