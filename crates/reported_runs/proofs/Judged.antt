-- A deck with the report of its run is due to be verified.
use Rattle.std.proofs.Common.{◌≡◌, ◌≤◌, ℕ, true, List, ◌++◌, length, Option, Some, inl, inr, refl, sym, ap, ◌∙◌, subst}
use Rattle.std.specs.Prelude.{Ok}
use Rattle.command_words.specs.Asked.{asked_by}
use Rattle.command_words.specs.declared.asked.Command.{Command}
use Rattle.command_words.specs.declared.asked.Command.TheVariants.{Run, Verify}
use Rattle.deck_names.proofs.DeckNames.{names-apart}
use Rattle.deck_reader.specs.Decks.{Decks}
use Rattle.deck_reader.specs.declared.deck.Deck.{Deck}
use Rattle.plain_semantics.specs.Machine.{shown_by}
use Rattle.player.specs.declared.stop.ProcessorStop.{ProcessorStop}
use Rattle.report_judge.specs.Reported.{IsReported}
use Rattle.report_judge.specs.Verdicts.{IsVerdict}
use Rattle.report_reader.specs.Reading.{acts_in, read_report, stops_in}
use Rattle.shown_sectors.specs.Sectors.{sectors_after}
use Rattle.tal_tree.specs.declared.act.Act.{Act}
use Rattle.trace_print.specs.declared.closing.End.{End}
use Rattle.told_reports.proofs.ReadBack.{report-read}
use Rattle.command_dues.specs.Decided.{IsDue, IsDueOn, IsReportOf}
use Rattle.command_dues.specs.RunEnds.{acts_of_run, closing_of}
use Rattle.command_dues.specs.Verified.{deck_in, report_in}
use Rattle.command_dues.specs.Written.{text_of, text_of_run}
use Rattle.command_dues.specs.declared.due.Due.TheVariants as due
use Rattle.command_dues.specs.declared.due.Report.{Report}
use Rattle.command_dues.specs.declared.task.Telling.TheVariants.{Lines}
use Rattle.verdicts.specs.Refused.{AreAccepted}
use Rattle.reported_runs.proofs.EndedDecks.{deck-first, report-last}
use Rattle.reported_runs.proofs.InForm.{reported-form}
use Rattle.reported_runs.proofs.Reports.{run-reported}
use Rattle.reported_runs.specs.EndedDecks.{IsEnded}
use Rattle.trace_print.specs.declared.closing.Closing.TheVariants.{Ended}
use Rattle.reported_runs.specs.Unmirrored.{AreUnmirrored}

-- a report of a deck has its verdict
verdict-of : (bytes : List ℕ) (deck : Deck) (text : List ℕ) (acts : List Act) (stopped : List ℕ) (how : End)
    → Decks bytes deck → IsReported deck.site text acts stopped how → IsVerdict deck.site text (Ok (length acts))
verdict-of bytes deck text acts stopped how decks reported =
    let shown = shown_by deck.site acts in
    let read = report-read deck.site shown (sectors_after deck.site shown) stopped acts how
    (names-apart bytes deck decks) (reported-form bytes deck text acts stopped how decks reported) in
    let whole : IsReported deck.site text (acts_in read.0.told) (stops_in read.0.told) read.0.end =
    subst (λ (e : End). IsReported deck.site text (acts_in read.0.told) (stops_in read.0.told) e) (sym read.4)
    (subst (λ (s : List ℕ). IsReported deck.site text (acts_in read.0.told) s how) (sym read.3)
    (subst (λ (a : List Act). IsReported deck.site text a stopped how) (sym read.2) reported)) in
    (read.0, ap (read_report deck.site) reported.text ∙ read.1, (whole, ap (λ (a : List Act). length a) read.2))

-- what is due of a run: its deck is accepted, and it is the report of the deck's run
record IsRunDue (bytes : List ℕ) (stop : Option ProcessorStop) (report : Report) : Type 0 where
  deck : Deck
  spelt : Decks bytes deck
  accepted : AreAccepted deck.site.processes
  run : IsReportOf deck stop report
  tells : report.tells ≡ Lines true

run-due : (words : List (List ℕ)) (bytes : List ℕ) (before now : ℕ) (stop : Option ProcessorStop) (report : Report)
    → asked_by words ≡ Some (Run true stop) → IsDue words (Some bytes) before now (due.Report report)
    → IsRunDue bytes stop report
run-due words bytes before now stop report asked (inl none) = absurd (cc)
run-due words bytes before now stop report asked (inr is) =
    by (subst (λ (c : Option Command). IsDueOn c (Some bytes) before now (due.Report report)) asked is)
  where
    by : IsDueOn (Some (Run true stop)) (Some bytes) before now (due.Report report) → IsRunDue bytes stop report
    by (found, told, (deck, decks, (able, (accepted, (run, tells))))) = record {
      deck = deck;
      spelt = subst (λ (all : List ℕ). Decks all deck) (sym told) decks;
      accepted = accepted refl;
      run = run;
      tells = tells;
    }

pub run-judged : (words others : List (List ℕ)) (bytes : List ℕ) (before now later last : ℕ)
    (stop : Option ProcessorStop) (report : Report) (end : End)
    → asked_by words ≡ Some (Run true stop) → IsDue words (Some bytes) before now (due.Report report)
    → closing_of report.run.ran.ending ≡ Ended end
    → ((deck : Deck) → Decks bytes deck → AreUnmirrored deck.site.processes) → asked_by others ≡ Some Verify
    → IsEnded bytes
    → length (bytes ++ text_of (due.Report report)) ≤ 67108864
    → IsDue others (Some (bytes ++ text_of (due.Report report))) later last
    (due.Verified (length (acts_of_run report.run)))
run-judged words others bytes before now later last stop report end asked is ends none judged ended few =
    let due_is = run-due words bytes before now stop report asked is in
    let text = text_of_run report in
    let acts = length (acts_of_run report.run) in
    let verdict = verdict-of bytes due_is.deck text (acts_of_run report.run) report.stopped
    end due_is.spelt (run-reported due_is.deck stop report due_is.run (none due_is.deck due_is.spelt) end ends
    due_is.tells) in
    let spelt : Decks (deck_in (bytes ++ text)) due_is.deck =
    subst (λ (all : List ℕ). Decks all due_is.deck) (sym (deck-first bytes text ended)) due_is.spelt in
    let behind : IsVerdict due_is.deck.site (report_in (bytes ++ text)) (Ok acts) =
    subst (λ (all : List ℕ). IsVerdict due_is.deck.site all (Ok acts)) (sym (report-last bytes text ended)) verdict in
    inr (subst (λ (c : Option Command). IsDueOn c (Some (bytes ++ text)) later last (due.Verified acts)) (sym judged)
    (bytes ++ text, refl, (few, due_is.deck, spelt, (due_is.accepted, behind))))
