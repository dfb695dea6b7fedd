-- What is told of a deck, before it is written.
use Rattle.std.specs.Prelude.{◌≡◌, ◌≢◌, ℕ, Bool, true, false, nat_lt, List, [], Option, Some, None, Result, Ok, Err}
use Rattle.deck_reader.specs.Decks.{Decks}
use Rattle.deck_reader.specs.Refusals.{IsRefusalOf}
use Rattle.deck_reader.specs.declared.deck.Deck.{Deck}
use Rattle.explain_decks.specs.declared.due.Due.{Due}
use Rattle.explain_decks.specs.declared.due.Due.TheVariants as due
use Rattle.explain_decks.specs.declared.due.TracedDeck.{TracedDeck}
use Rattle.explain_decks.specs.declared.telling.Telling.{Telling}
use Rattle.explain_decks.specs.declared.telling.Telling.TheVariants.{Why, Left, Breaks, Trace, Chart}
use Rattle.explain_break.specs.Broken.{IsBreakDeck}
use Rattle.explain_break.specs.break_progress.specs.Progress.{IsProgress}
use Rattle.explain_chart.specs.DeckCharts.{IsChartDeck}
use Rattle.explain_chart.specs.charted_runs.specs.declared.charted.ChartFault.{ChartFault}
use Rattle.explain_chart.specs.charted_runs.specs.declared.charted.ChartFault.TheVariants as chart
use Rattle.explain_left.specs.Left.{IsLeftDeck}
use Rattle.explain_left.specs.explain_why.specs.Judged.{IsJudgedDeck}
use Rattle.explain_left.specs.explain_why.specs.declared.judged.JudgedDeck.{JudgedDeck}
use Rattle.fault_text.specs.WhyText.{told_text}
use Rattle.gd_io.specs.Faults.{HasRisen}
use Rattle.gd_words.specs.Memory.{no_memory}
use Rattle.gd_words.specs.declared.memory.NoMemory.{NoMemory}
use Rattle.player.specs.declared.stop.ProcessorStop.{ProcessorStop}
use Rattle.tal_tree.specs.declared.fault.DeckFault.{DeckFault}
use Rattle.tal_tree.specs.declared.fault.DeckFault.TheVariants as fault
use Rattle.explain_chart.specs.traced_decks.specs.PlacesOf.{places_of}
use Rattle.explain_chart.specs.traced_decks.specs.traced_runs.specs.declared.manner.Manner.{Manner}
use Rattle.verdicts.specs.Refused.{AreAccepted}

-- what is due where bytes are refused for a fault, or memory ran out
abbrev pub IsDueOfFault : List ℕ → DeckFault → Due → Type 0
IsDueOfFault bytes why (due.Refused refused) =
    (refused.fault ≡ why) × (refused.told ≡ told_text bytes why) × (why ≢ fault.NoMemory no_memory)
IsDueOfFault bytes why (due.NoMemory memory) = Unit {0}
IsDueOfFault bytes why (due.Judged judged) = ⊥
IsDueOfFault bytes why (due.Runs run) = ⊥
IsDueOfFault bytes why due.NoProcessor = ⊥
IsDueOfFault bytes why due.ChartTooLong = ⊥
IsDueOfFault bytes why due.ReadFault = ⊥

-- whether a site of so many processors has the one that is to stop
abbrev pub has_processor : Option ProcessorStop → ℕ → Bool
has_processor None processors = true
has_processor (Some stop) processors = nat_lt stop.processor processors

abbrev pub can_stop : Telling → ℕ → Bool
can_stop Why processors = true
can_stop (Left stop) processors = has_processor stop processors
can_stop Breaks processors = true
can_stop (Trace stop manner) processors = has_processor stop processors
can_stop (Chart stop scope) processors = has_processor stop processors

-- what is told of a deck; only where it is asked for a run that breaks, something is told meanwhile
abbrev pub IsTold : Telling → List ℕ → Deck → List ℕ → JudgedDeck → Type 0
IsTold Why bytes deck meanwhile judged = IsJudgedDeck bytes deck.site.processes judged × (meanwhile ≡ [])
IsTold (Left stop) bytes deck meanwhile judged = IsLeftDeck bytes deck stop judged × (meanwhile ≡ [])
IsTold Breaks bytes deck meanwhile judged = IsBreakDeck bytes deck meanwhile judged
IsTold (Trace stop manner) bytes deck meanwhile judged =
    (judged.refused ≡ true) × IsJudgedDeck bytes deck.site.processes judged × (meanwhile ≡ [])
IsTold (Chart stop scope) bytes deck meanwhile judged =
    IsChartDeck bytes deck stop scope (Ok judged) × (meanwhile ≡ [])

-- more of its events are to be drawn than a chart has room for
abbrev pub IsTooLong : Telling → List ℕ → Deck → Type 0
IsTooLong Why bytes deck = ⊥
IsTooLong (Left stop) bytes deck = ⊥
IsTooLong Breaks bytes deck = ⊥
IsTooLong (Trace stop manner) bytes deck = ⊥
IsTooLong (Chart stop scope) bytes deck = IsChartDeck bytes deck stop scope (Err chart.TooLong)

-- what is due where it was told of a deck, or memory ran out
abbrev pub due_of_told : Result JudgedDeck NoMemory → Due
due_of_told (Ok judged) = due.Judged judged
due_of_told (Err memory) = due.NoMemory memory

-- what is due where the chart of a deck was drawn, or there is none
abbrev pub due_of_chart : Result JudgedDeck ChartFault → Due
due_of_chart (Ok judged) = due.Judged judged
due_of_chart (Err chart.TooLong) = due.ChartTooLong
due_of_chart (Err (chart.NoMemory memory)) = due.NoMemory memory

-- all programs of a deck are accepted, and its run is to be told so
pub record IsToRun (telling : Telling) (bytes : List ℕ) (deck : Deck) (run : TracedDeck) : Type 0 where
  pub asked : telling ≡ Trace run.stop run.manner
  pub deck_is : run.deck ≡ deck
  pub placed : run.places ≡ places_of bytes deck.site
  pub accepted : AreAccepted deck.site.processes

-- what is due of a deck that bytes spell, and what is told meanwhile
abbrev pub IsDueOfDeck : Telling → List ℕ → Deck → List ℕ → Due → Type 0
IsDueOfDeck telling bytes deck meanwhile (due.Judged judged) =
    (can_stop telling deck.site.processors ≡ true) × IsTold telling bytes deck meanwhile judged
IsDueOfDeck telling bytes deck meanwhile (due.Runs run) =
    (can_stop telling deck.site.processors ≡ true) × IsToRun telling bytes deck run × (meanwhile ≡ [])
IsDueOfDeck telling bytes deck meanwhile due.NoProcessor =
    (can_stop telling deck.site.processors ≡ false) × (meanwhile ≡ [])
IsDueOfDeck telling bytes deck meanwhile due.ChartTooLong =
    (can_stop telling deck.site.processors ≡ true) × IsTooLong telling bytes deck × (meanwhile ≡ [])
IsDueOfDeck telling bytes deck meanwhile (due.NoMemory _) = IsProgress meanwhile
IsDueOfDeck telling bytes deck meanwhile (due.Refused refused) = ⊥
IsDueOfDeck telling bytes deck meanwhile due.ReadFault = ⊥

-- what is due of a deck whose run is to be told: that a program is refused, if one is, and else its run
abbrev pub IsDueOfTrace : List ℕ → Deck → Option ProcessorStop → Manner → Due → Type 0
IsDueOfTrace bytes deck stop manner (due.Judged judged) =
    (judged.refused ≡ true) × IsJudgedDeck bytes deck.site.processes judged
IsDueOfTrace bytes deck stop manner (due.Runs run) = IsToRun (Trace stop manner) bytes deck run
IsDueOfTrace bytes deck stop manner (due.NoMemory _) = Unit {0}
IsDueOfTrace bytes deck stop manner due.NoProcessor = ⊥
IsDueOfTrace bytes deck stop manner due.ChartTooLong = ⊥
IsDueOfTrace bytes deck stop manner (due.Refused refused) = ⊥
IsDueOfTrace bytes deck stop manner due.ReadFault = ⊥

-- what is due of bytes, and what is told meanwhile: they spell a deck, or are refused for the one fault that is told
abbrev pub IsDueOfBytes : Telling → List ℕ → List ℕ → Due → Type 0
IsDueOfBytes telling bytes meanwhile (due.Judged judged) =
    (deck : Deck) × Decks bytes deck × IsDueOfDeck telling bytes deck meanwhile (due.Judged judged)
IsDueOfBytes telling bytes meanwhile (due.Runs run) =
    (deck : Deck) × Decks bytes deck × IsDueOfDeck telling bytes deck meanwhile (due.Runs run)
IsDueOfBytes telling bytes meanwhile due.NoProcessor =
    (deck : Deck) × Decks bytes deck × IsDueOfDeck telling bytes deck meanwhile due.NoProcessor
IsDueOfBytes telling bytes meanwhile due.ChartTooLong =
    (deck : Deck) × Decks bytes deck × IsDueOfDeck telling bytes deck meanwhile due.ChartTooLong
IsDueOfBytes telling bytes meanwhile (due.Refused refused) =
    IsRefusalOf bytes refused.fault × (refused.told ≡ told_text bytes refused.fault) × (meanwhile ≡ [])
IsDueOfBytes telling bytes meanwhile (due.NoMemory _) = IsProgress meanwhile
IsDueOfBytes telling bytes meanwhile due.ReadFault = ⊥

-- bytes are those that were left, where these are told
abbrev pub AreLeft : Option (List ℕ) → List ℕ → Type 0
AreLeft None bytes = Unit {0}
AreLeft (Some left) bytes = left ≡ bytes

-- what is due of a source, whose count of faults stood and stands so, and what is told meanwhile
abbrev pub IsDueOfSource : Telling → Option (List ℕ) → ℕ → ℕ → List ℕ → Due → Type 0
IsDueOfSource telling left before now meanwhile due.ReadFault = HasRisen before now × (meanwhile ≡ [])
IsDueOfSource telling left before now meanwhile (due.NoMemory _) = IsProgress meanwhile
IsDueOfSource telling left before now meanwhile decided =
    (bytes : List ℕ) × AreLeft left bytes × IsDueOfBytes telling bytes meanwhile decided

-- what is due only once the deck was read to its end
abbrev pub IsOfWholeDeck : Due → Type 0
IsOfWholeDeck (due.Judged judged) = Unit {0}
IsOfWholeDeck (due.Runs run) = Unit {0}
IsOfWholeDeck due.NoProcessor = Unit {0}
IsOfWholeDeck due.ChartTooLong = Unit {0}
IsOfWholeDeck (due.Refused refused) = refused.fault ≢ fault.TooLong
IsOfWholeDeck due.ReadFault = ⊥
IsOfWholeDeck (due.NoMemory memory) = ⊥
