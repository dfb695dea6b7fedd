-- How a call of `explain` ends.
use Rattle.std.specs.Prelude.{◌≡◌, ◌⊎◌, ℕ, List, ◌∷◌, [], ◌++◌, codes, Option, Some, None, Result, Ok, Err, ⊤}
use Rattle.explain_decks.specs.Ends.{TellEnds}
use Rattle.explain_decks.specs.Written.{status_number}
use Rattle.explain_decks.specs.declared.status.Status.{Status}
use Rattle.explain_decks.specs.declared.telling.Telling.{Telling}
use Rattle.explain_decks.specs.declared.telling.Telling.TheVariants as telling
use Rattle.explain_decks.specs.traced_decks.specs.traced_runs.specs.Trace.{manner_of}
use Rattle.explain_words.specs.Asked.{IsAsked}
use Rattle.explain_words.specs.declared.asked.Question.{Question}
use Rattle.explain_words.specs.declared.asked.Question.TheVariants.{Why, Left, Breaks, Trace, Chart, Help, Version}
use Rattle.explain.specs.declared.ending.Ending.{Ending}
use Rattle.explain.specs.declared.ending.Ending.TheVariants as ending
use Rattle.gd_words.specs.declared.memory.NoMemory.{NoMemory}
use Rattle.gd_io.specs.Puts.{Puts}
use Rattle.gd_io.specs.declared.writing.WriteFault.{WriteFault}

abbrev pub usage_line : List ℕ
usage_line =
    codes "usage: explain why [FILE]" ++ 10 ∷ [] ++ codes "       explain left [--fail P:K] [FILE]" ++ 10 ∷ []
    ++ codes "       explain break [FILE]" ++ 10 ∷ []
    ++ codes "       explain trace [--fail P:K] [--from E] [--to E] [--json] [FILE]" ++ 10 ∷ []
    ++ codes "       explain chart [--fail P:K] [--from E] [--to E] [--alive] [FILE]" ++ 10 ∷ []

-- how a call ends that writes the usage, by whether it went out whole
abbrev pub usage_ending : Result ⊤ WriteFault → Ending
usage_ending (Ok done) = ending.Usage
usage_ending (Err fault) = ending.UsageUnwritten

-- the number with which the program ends
abbrev pub ending_number : Ending → ℕ
ending_number ending.Usage = 1
ending_number ending.UsageUnwritten = 7
ending_number ending.Shown = 0
ending_number ending.ShownUnwritten = 7
ending_number (ending.NoMemory _) = 8
ending_number (ending.Told status) = status_number status

-- the usage is written
abbrev pub IsUsage : {K : Type 0} → (K → Option (List ℕ)) → (K → ℕ) → (K → ℕ → Type 0) → K → K → Ending → Type 0
IsUsage held faults sure sink sink_now how =
    (result : Result ⊤ WriteFault) × Puts held faults sure sink sink_now usage_line result × (how ≡ usage_ending result)

abbrev pub shown_ending : Result ⊤ WriteFault → Ending
shown_ending (Ok done) = ending.Shown
shown_ending (Err fault) = ending.ShownUnwritten

-- a text is written
abbrev pub IsWritten : {K : Type 0} → (K → Option (List ℕ)) → (K → ℕ) → (K → ℕ → Type 0) → List ℕ → K → K → Ending
    → Type 0
IsWritten held faults sure text sink sink_now how =
    (result : Result ⊤ WriteFault) × Puts held faults sure sink sink_now text result × (how ≡ shown_ending result)

-- some text on the program is written, or memory for it ran out
abbrev pub IsShown : {K : Type 0} → (K → Option (List ℕ)) → (K → ℕ) → (K → ℕ → Type 0) → K → K → Ending → Type 0
IsShown held faults sure sink sink_now how =
    ((memory : NoMemory) × (how ≡ ending.NoMemory memory) × (sink_now ≡ sink))
    ⊎ ((text : List ℕ) × IsWritten held faults sure text sink sink_now how)

module _ {S K P : Type 0} (left : S → Option (List ℕ)) (failed_reads : S → ℕ) (sure_to_read : S → Type 0)
    (held : K → Option (List ℕ)) (failed_writes : K → ℕ) (sure_to_write : K → ℕ → Type 0)
    (shown : P → Option (List ℕ)) (failed_shows : P → ℕ) (sure_to_show : P → ℕ → Type 0) where
  -- it is told of the deck
  abbrev pub IsTold : Telling → S → S → K → K → P → P → Ending → Type 0
  IsTold what source source_now sink sink_now progress progress_now how =
      (status : Status)
      × TellEnds left failed_reads sure_to_read held failed_writes sure_to_write shown failed_shows sure_to_show what
      source source_now sink sink_now progress progress_now status
      × (how ≡ ending.Told status)

  -- what is asked for is answered: of a deck, or of the program; and words that ask for nothing by the usage, which
  -- leaves the source
  abbrev pub IsAnswer : Option Question → S → S → K → K → P → P → Ending → Type 0
  IsAnswer None source source_now sink sink_now progress progress_now how =
      (source_now ≡ source) × (progress_now ≡ progress) × IsUsage held failed_writes sure_to_write sink sink_now how
  IsAnswer (Some Why) source source_now sink sink_now progress progress_now how =
      IsTold telling.Why source source_now sink sink_now progress progress_now how
  IsAnswer (Some (Left stop)) source source_now sink sink_now progress progress_now how =
      IsTold (telling.Left stop) source source_now sink sink_now progress progress_now how
  IsAnswer (Some Breaks) source source_now sink sink_now progress progress_now how =
      IsTold telling.Breaks source source_now sink sink_now progress progress_now how
  IsAnswer (Some (Trace stop from to json)) source source_now sink sink_now progress progress_now how =
      IsTold (telling.Trace stop (manner_of from to json)) source source_now sink sink_now progress progress_now how
  IsAnswer (Some (Chart stop from to alive)) source source_now sink sink_now progress progress_now how =
      IsTold (telling.Chart stop (record { span = record { from = from; to = to }; alive = alive })) source source_now
      sink sink_now progress progress_now how
  IsAnswer (Some Help) source source_now sink sink_now progress progress_now how =
      (source_now ≡ source) × (progress_now ≡ progress) × IsShown held failed_writes sure_to_write sink sink_now how
  IsAnswer (Some Version) source source_now sink sink_now progress progress_now how =
      (source_now ≡ source) × (progress_now ≡ progress) × IsShown held failed_writes sure_to_write sink sink_now how

  -- or memory for the words ran out, and nothing is read or written
  abbrev pub Answers : List (List ℕ) → S → S → K → K → P → P → Ending → Type 0
  Answers words source source_now sink sink_now progress progress_now how =
      ((memory : NoMemory) × (how ≡ ending.NoMemory memory) × (source_now ≡ source) × (sink_now ≡ sink)
      × (progress_now ≡ progress))
      ⊎ ((question : Option Question) × IsAsked words question
      × IsAnswer question source source_now sink sink_now progress progress_now how)
