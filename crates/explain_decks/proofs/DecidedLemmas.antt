-- What is decided, and what the status tells of it.
use Rattle.std.proofs.Common.{◌≡◌, ℕ, ◌<◌, List, [], length, Option, Some, None, Result, Ok, Err, sym, subst, ap, ◌∙◌}
use Rattle.std.proofs.Common.{refl, Bool, true, false}
use Rattle.std.specs.Prelude.{◌≢◌, ⊤, IfOk}
use Rattle.deck_reader.specs.Decks.{Decks}
use Rattle.deck_reader.specs.Refusals.{IsRefusalOf}
use Rattle.deck_reader.specs.declared.deck.Deck.{Deck}
use Rattle.explain_break.specs.break_progress.specs.Progress.{IsProgress}
use Rattle.explain_break.specs.break_progress.proofs.Told.{nothing_is_told}
use Rattle.explain_decks.specs.Decided.{AreLeft, IsDueOfBytes, IsDueOfDeck, IsDueOfFault, IsDueOfSource, IsDueOfTrace}
use Rattle.explain_decks.specs.Decided.{IsTold, can_stop, due_of_chart, due_of_told}
use Rattle.explain_decks.specs.Written.{CanBeWritten, Comes, judged_status, status_after, traced_status}
use Rattle.explain_decks.specs.declared.due.Due.{Due}
use Rattle.explain_decks.specs.declared.due.Due.TheVariants as due
use Rattle.explain_decks.specs.declared.status.Status.{Status}
use Rattle.explain_decks.specs.declared.status.Status.TheVariants as status
use Rattle.explain_decks.specs.declared.telling.Telling.{Telling}
use Rattle.explain_decks.specs.declared.telling.Telling.TheVariants.{Trace, Chart}
use Rattle.explain_chart.specs.DeckCharts.{IsChartDeck}
use Rattle.explain_chart.specs.declared.scope.Scope.{Scope}
use Rattle.explain_chart.specs.charted_runs.specs.declared.charted.ChartFault.{ChartFault}
use Rattle.explain_chart.specs.charted_runs.specs.declared.charted.ChartFault.TheVariants as chart
use Rattle.explain_left.specs.explain_why.specs.declared.judged.JudgedDeck.{JudgedDeck}
use Rattle.fault_text.specs.WhyText.{told_text}
use Rattle.gd_io.specs.Reads.{Leaves}
use Rattle.gd_io.specs.declared.writing.WriteFault.{WriteFault}
use Rattle.gd_words.specs.Memory.{no_memory}
use Rattle.gd_words.specs.declared.memory.NoMemory.{NoMemory}
use Rattle.player.specs.declared.stop.ProcessorStop.{ProcessorStop}
use Rattle.tal_tree.specs.declared.fault.DeckFault.{DeckFault}
use Rattle.tal_tree.specs.declared.fault.DeckFault.TheVariants as fault
use Rattle.tal_tree.specs.declared.fault.TalFault.{TalFault}
use Rattle.tal_tree.specs.declared.fault.TalFault.TheVariants as tal
use Rattle.fault_text.specs.trace_print.specs.FaultLine.{IsOfDeck}
use Rattle.fault_text.specs.trace_print.specs.TalNumbers.{IsOfText}
use Rattle.explain_chart.specs.traced_decks.specs.traced_runs.specs.declared.fault.TraceFault.{TraceFault}
use Rattle.explain_chart.specs.traced_decks.specs.traced_runs.specs.declared.fault.TraceFault.TheVariants as trace
use Rattle.explain_chart.specs.traced_decks.specs.traced_runs.specs.declared.manner.Manner.{Manner}
use Rattle.explain_chart.specs.traced_decks.specs.traced_runs.specs.packet_runs.specs.declared.ran.Ran.{Ran}
use Rattle.verdicts.specs.Refused.{AreAccepted}

judged_is_none : {P : Type 0} (refused : Bool) → judged_status refused ≡ status.ReadFault → P
judged_is_none true e = absurd (cc)
judged_is_none false e = absurd (cc)

-- where a text is written, a read fault is the status only if it was to be
written_so : {P : Type 0} (whole : Status) (result : Result ⊤ WriteFault) → (whole ≡ status.ReadFault → P)
    → status_after whole result ≡ status.ReadFault → P
written_so whole (Ok done) only e = only e
written_so whole (Err fault) only e = absurd (cc)

traced_so : {P : Type 0} (result : Result Ran TraceFault) → traced_status result ≡ status.ReadFault → P
traced_so (Ok ran) e = absurd (cc)
traced_so (Err (trace.Write why)) e = absurd (cc)
traced_so (Err (trace.NoMemory memory)) e = absurd (cc)

-- a read fault is the status of no other decision
pub read_fault_is_due : {K : Type 0} (held : K → Option (List ℕ)) (failed : K → ℕ) (sure : K → ℕ → Type 0)
    (decided : Due) (sink sink_now : K) (outcome : Status)
    → Comes held failed sure decided sink sink_now outcome → outcome ≡ status.ReadFault → decided ≡ due.ReadFault
read_fault_is_due held failed sure (due.Judged judged) sink sink_now outcome comes e =
    written_so (judged_status judged.refused) comes.0 (judged_is_none judged.refused) (sym comes.2 ∙ e)
read_fault_is_due held failed sure (due.Runs run) sink sink_now outcome comes e = traced_so comes.0 (sym comes.2 ∙ e)
read_fault_is_due held failed sure due.NoProcessor sink sink_now outcome comes e =
    written_so status.NoProcessor comes.0 (λ is. absurd (cc)) (sym comes.2 ∙ e)
read_fault_is_due held failed sure due.ChartTooLong sink sink_now outcome comes e =
    written_so status.ChartTooLong comes.0 (λ is. absurd (cc)) (sym comes.2 ∙ e)
read_fault_is_due held failed sure (due.Refused refused) sink sink_now outcome comes e =
    written_so (status.Refused refused.fault) comes.0 (λ is. absurd (cc)) (sym comes.2 ∙ e)
read_fault_is_due held failed sure due.ReadFault sink sink_now outcome comes e = refl
read_fault_is_due held failed sure (due.NoMemory memory) sink sink_now outcome comes e =
    written_so (status.NoMemory memory) comes.0 (λ is. absurd (cc)) (sym comes.2 ∙ e)

-- the bytes that were read are those that were left
pub are_left : (left now : Option (List ℕ)) (bytes rest : List ℕ) → Leaves left now bytes rest → AreLeft left bytes
are_left None now bytes rest h = tt
are_left (Some xs) now bytes rest h = h.0

-- why bytes are refused is due
pub fault_is_due : (telling : Telling) (bytes : List ℕ) (why : DeckFault) (decided : Due)
    → (why ≢ fault.NoMemory no_memory → IsRefusalOf bytes why) → IsDueOfFault bytes why decided
    → IsDueOfBytes telling bytes [] decided
fault_is_due telling bytes why (due.Judged judged) refused is = absurd is
fault_is_due telling bytes why (due.Runs run) refused is = absurd is
fault_is_due telling bytes why due.NoProcessor refused is = absurd is
fault_is_due telling bytes why due.ChartTooLong refused is = absurd is
fault_is_due telling bytes why due.ReadFault refused is = absurd is
fault_is_due telling bytes why (due.NoMemory _) refused is = nothing_is_told
fault_is_due telling bytes why (due.Refused found) refused is = (
  subst (IsRefusalOf bytes) (sym is.0) (refused is.2),
  is.1 ∙ ap (told_text bytes) (sym is.0),
  refl,
)

-- what a program is refused for is told, if it isn't that memory ran out
of_text : (why : TalFault) → why ≢ tal.NoMemory no_memory → IsOfText why
of_text (tal.NoMemory _) memory = absurd (memory refl)
of_text _ memory = tt

has_line : (why : DeckFault) → why ≢ fault.NoMemory no_memory
    → ((number : ℕ) → why ≢ fault.Program number (tal.NoMemory no_memory)) → IsOfDeck why
has_line (fault.Program number why) there memory = of_text why (λ e. memory number (ap (fault.Program number) e))
has_line (fault.NoMemory _) there memory = absurd (there refl)
has_line _ there memory = tt

-- it has a line
pub fault_is_written : (bytes : List ℕ) (why : DeckFault) (decided : Due)
    → ((number : ℕ) → why ≢ fault.Program number (tal.NoMemory no_memory)) → IsDueOfFault bytes why decided
    → CanBeWritten decided
fault_is_written bytes why (due.Judged judged) memory is = absurd is
fault_is_written bytes why (due.Runs run) memory is = absurd is
fault_is_written bytes why due.NoProcessor memory is = tt
fault_is_written bytes why due.ChartTooLong memory is = tt
fault_is_written bytes why due.ReadFault memory is = tt
fault_is_written bytes why (due.NoMemory _) memory is = tt
fault_is_written bytes why (due.Refused found) memory is = subst IsOfDeck (sym is.0) (has_line why is.2 memory)

-- too many bytes are refused, whatever they are
pub too_long_is_due : (telling : Telling) (bytes : List ℕ) (decided : Due) → 1048576 < length bytes
    → IsDueOfFault [] fault.TooLong decided → IsDueOfBytes telling bytes [] decided
too_long_is_due telling bytes (due.Judged judged) long is = absurd is
too_long_is_due telling bytes (due.Runs run) long is = absurd is
too_long_is_due telling bytes due.NoProcessor long is = absurd is
too_long_is_due telling bytes due.ChartTooLong long is = absurd is
too_long_is_due telling bytes due.ReadFault long is = absurd is
too_long_is_due telling bytes (due.NoMemory _) long is = nothing_is_told
too_long_is_due telling bytes (due.Refused found) long is = (
  subst (IsRefusalOf bytes) (sym is.0) long,
  is.1 ∙ ap (told_text bytes) (sym is.0),
  refl,
)

-- what is due of the bytes of a source
pub bytes_are_due : (telling : Telling) (left : Option (List ℕ)) (before now : ℕ) (bytes meanwhile : List ℕ)
    (decided : Due) → AreLeft left bytes → IsDueOfBytes telling bytes meanwhile decided
    → IsDueOfSource telling left before now meanwhile decided
bytes_are_due telling left before now bytes meanwhile (due.Judged judged) told is = (bytes, told, is)
bytes_are_due telling left before now bytes meanwhile (due.Runs run) told is = (bytes, told, is)
bytes_are_due telling left before now bytes meanwhile due.NoProcessor told is = (bytes, told, is)
bytes_are_due telling left before now bytes meanwhile due.ChartTooLong told is = (bytes, told, is)
bytes_are_due telling left before now bytes meanwhile (due.Refused refused) told is = (bytes, told, is)
bytes_are_due telling left before now bytes meanwhile due.ReadFault told is = absurd is
bytes_are_due telling left before now bytes meanwhile (due.NoMemory _) told is = is

-- what is told of a deck that bytes spell is due of them
pub deck_is_due : (telling : Telling) (bytes meanwhile : List ℕ) (deck : Deck) (decided : Due) → Decks bytes deck
    → IsDueOfDeck telling bytes deck meanwhile decided → IsDueOfBytes telling bytes meanwhile decided
deck_is_due telling bytes meanwhile deck (due.Judged judged) spells is = (deck, spells, is)
deck_is_due telling bytes meanwhile deck (due.Runs run) spells is = (deck, spells, is)
deck_is_due telling bytes meanwhile deck due.NoProcessor spells is = (deck, spells, is)
deck_is_due telling bytes meanwhile deck due.ChartTooLong spells is = (deck, spells, is)
deck_is_due telling bytes meanwhile deck (due.NoMemory _) spells is = is
deck_is_due telling bytes meanwhile deck (due.Refused refused) spells is = absurd is
deck_is_due telling bytes meanwhile deck due.ReadFault spells is = absurd is

-- nothing is told meanwhile
pub quietly : (P : JudgedDeck → Type 0) (told : Result JudgedDeck NoMemory) → IfOk told P
    → IfOk told (λ judged. P judged × ◌≡◌ {A = List ℕ} [] [])
quietly P (Ok judged) is = (is, refl)
quietly P (Err memory) is = tt

-- what was told of a deck is due of it
pub told_is_due : (telling : Telling) (bytes meanwhile : List ℕ) (deck : Deck) (told : Result JudgedDeck NoMemory)
    → can_stop telling deck.site.processors ≡ true → IsProgress meanwhile
    → IfOk told (λ judged. IsTold telling bytes deck meanwhile judged)
    → IsDueOfDeck telling bytes deck meanwhile (due_of_told told)
told_is_due telling bytes meanwhile deck (Ok judged) can progress is = (can, is)
told_is_due telling bytes meanwhile deck (Err memory) can progress is = progress

-- and can be written
pub told_is_written : (told : Result JudgedDeck NoMemory) → CanBeWritten (due_of_told told)
told_is_written (Ok judged) = tt
told_is_written (Err memory) = tt

-- and so is the run whose events are to be told
pub trace_is_due : (bytes : List ℕ) (deck : Deck) (stop : Option ProcessorStop) (manner : Manner) (decided : Due)
    → can_stop (Trace stop manner) deck.site.processors ≡ true → IsDueOfTrace bytes deck stop manner decided
    → IsDueOfDeck (Trace stop manner) bytes deck [] decided
trace_is_due bytes deck stop manner (due.Judged judged) can is = (can, (is.0, is.1, refl))
trace_is_due bytes deck stop manner (due.Runs run) can is = (can, is, refl)
trace_is_due bytes deck stop manner due.NoProcessor can is = absurd is
trace_is_due bytes deck stop manner due.ChartTooLong can is = absurd is
trace_is_due bytes deck stop manner (due.Refused refused) can is = absurd is
trace_is_due bytes deck stop manner due.ReadFault can is = absurd is
trace_is_due bytes deck stop manner (due.NoMemory memory) can is = nothing_is_told

-- it can be run
pub trace_is_written : (bytes : List ℕ) (deck : Deck) (stop : Option ProcessorStop) (manner : Manner) (decided : Due)
    → Decks bytes deck → IsDueOfTrace bytes deck stop manner decided → CanBeWritten decided
trace_is_written bytes deck stop manner (due.Judged judged) spelt is = tt
trace_is_written bytes deck stop manner (due.Runs run) spelt is = record {
  spelt = (bytes, subst (λ (one : Deck). Decks bytes one) (sym is.deck_is) spelt);
  accepted = subst (λ (one : Deck). AreAccepted one.site.processes) (sym is.deck_is) is.accepted;
}
trace_is_written bytes deck stop manner due.NoProcessor spelt is = absurd is
trace_is_written bytes deck stop manner due.ChartTooLong spelt is = absurd is
trace_is_written bytes deck stop manner (due.Refused refused) spelt is = absurd is
trace_is_written bytes deck stop manner due.ReadFault spelt is = absurd is
trace_is_written bytes deck stop manner (due.NoMemory memory) spelt is = tt

-- and so is the chart
pub chart_is_due : (bytes : List ℕ) (deck : Deck) (stop : Option ProcessorStop) (scope : Scope)
    (told : Result JudgedDeck ChartFault) → can_stop (Chart stop scope) deck.site.processors ≡ true
    → IsChartDeck bytes deck stop scope told → IsDueOfDeck (Chart stop scope) bytes deck [] (due_of_chart told)
chart_is_due bytes deck stop scope (Ok judged) can is = (can, (is, refl))
chart_is_due bytes deck stop scope (Err chart.TooLong) can is = (can, is, refl)
chart_is_due bytes deck stop scope (Err (chart.NoMemory memory)) can is = nothing_is_told

pub chart_is_written : (told : Result JudgedDeck ChartFault) → CanBeWritten (due_of_chart told)
chart_is_written (Ok judged) = tt
chart_is_written (Err chart.TooLong) = tt
chart_is_written (Err (chart.NoMemory memory)) = tt
