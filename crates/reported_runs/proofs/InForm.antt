-- What a run of a deck shows is in form, and so its report is verified.
use Rattle.std.proofs.Common.{◌≡◌, ℕ, ◌+◌, ◌≤◌, true, List, [], ◌∷◌, length, Option, arith}
use Rattle.std.specs.Prelude.{Result, Ok}
use Rattle.deck_forms.proofs.Tellable.{deck-tellable}
use Rattle.deck_names.proofs.DeckNames.{names-apart}
use Rattle.deck_reader.proofs.DeckLimits.{deck_within}
use Rattle.deck_reader.specs.Decks.{Decks}
use Rattle.deck_reader.specs.declared.deck.Deck.{Deck}
use Rattle.plain_semantics.specs.Machine.{shown_by}
use Rattle.player.specs.declared.stop.ProcessorStop.{ProcessorStop}
use Rattle.report_judge.specs.Reported.{AreRising, IsEndOfRun, IsReported}
use Rattle.report_judge.specs.Verdicts.{IsVerdict}
use Rattle.report_judge.specs.declared.judge.VerifyFault.{VerifyFault}
use Rattle.report_laws.specs.OneVerdict.{IsSameVerdict}
use Rattle.deck_forms.specs.shown_forms.proofs.Possible.{acts-named, sectors-shown, shown-formed}
use Rattle.shown_sectors.specs.Sectors.{sectors_after}
use Rattle.tal_tree.specs.declared.act.Act.{Act}
use Rattle.tal_tree.specs.declared.site.Site.{Site}
use Rattle.trace_print.specs.declared.closing.End.{End}
use Rattle.trace_print.specs.declared.closing.End.TheVariants.{Idle, Cut, Second}
use Rattle.told_reports.specs.InForm.{AreEach, AreRisingFrom, IsEndOn, IsInForm, IsProcessorOf}
use Rattle.command_dues.specs.Decided.{IsReportOf}
use Rattle.command_dues.specs.RunEnds.{acts_of_run, closing_of}
use Rattle.command_dues.specs.Written.{text_of_run}
use Rattle.command_dues.specs.declared.due.Report.{Report}
use Rattle.command_dues.specs.declared.task.Telling.TheVariants.{Lines}
use Rattle.reported_runs.proofs.Reports.{run-reported}
use Rattle.reported_runs.proofs.Verified.{run-verified}
use Rattle.trace_print.specs.declared.closing.Closing.TheVariants.{Ended}
use Rattle.reported_runs.specs.Unmirrored.{AreUnmirrored}

-- processors that rise below a bound
rising-from : (least bound : ℕ) (processors : List ℕ) → AreRising least bound processors
    → AreRisingFrom least processors
rising-from least bound [] rising = tt
rising-from least bound (processor ∷ processors) rising =
    (rising.0, rising-from (processor + 1) bound processors rising.2)

each-below : (site : Site) → site.processors ≤ 16 → (least : ℕ) (processors : List ℕ)
    → AreRising least site.processors processors → AreEach (IsProcessorOf site) processors
each-below site few least [] rising = tt
each-below site few least (processor ∷ processors) rising =
    ((rising.1, omega (arith, few, rising.1)), each-below site few (processor + 1) processors rising.2)

end-on : (site : Site) → site.processors ≤ 16 → (how : End) → IsEndOfRun site how → IsEndOn site how
end-on site few Idle is = tt
end-on site few Cut is = tt
end-on site few (Second processor) is = (is, omega (arith, few, is))
end-on site few _ is = absurd is

pub reported-form : (bytes : List ℕ) (deck : Deck) (text : List ℕ) (acts : List Act) (stopped : List ℕ) (how : End)
    → Decks bytes deck → IsReported deck.site text acts stopped how
    → IsInForm deck.site (shown_by deck.site acts) (sectors_after deck.site (shown_by deck.site acts)) stopped acts how
reported-form bytes deck text acts stopped how decks is =
    let tells = deck-tellable bytes deck decks in
    let few = (deck_within bytes deck decks).site.most_processors in record {
      each_shown = shown-formed deck.site acts tells is.possible;
      each_sector = sectors-shown deck.site acts tells is.possible;
      each_stopped = each-below deck.site few 0 stopped is.rising;
      rising = rising-from 0 deck.site.processors stopped is.rising;
      each_act = acts-named deck.site acts tells is.possible;
      ends = end-on deck.site few how is.ends;
    }

pub every-report-verified : (bytes : List ℕ) (deck : Deck) (stop : Option ProcessorStop) (report : Report) (end : End)
    (verdict : Result ℕ VerifyFault)
    → Decks bytes deck → AreUnmirrored deck.site.processes → IsReportOf deck stop report
    → closing_of report.run.ran.ending ≡ Ended end → report.tells ≡ Lines true
    → IsVerdict deck.site (text_of_run report) verdict
    → IsSameVerdict verdict (Ok (length (acts_of_run report.run)))
every-report-verified bytes deck stop report end verdict decks none is ended tells judged =
    run-verified deck stop report end verdict none is ended tells (names-apart bytes deck decks)
    (reported-form bytes deck (text_of_run report) (acts_of_run report.run) report.stopped end decks
    (run-reported deck stop report is none end ended tells)) judged
