-- The report of a run is verified where what it tells is in form.
use Rattle.std.proofs.Common.{◌≡◌, ◌∙◌, ℕ, true, List, length, Option, subst, sym, ap}
use Rattle.std.specs.Prelude.{Result, Ok}
use Rattle.deck_reader.specs.declared.deck.Deck.{Deck}
use Rattle.plain_semantics.specs.Machine.{shown_by}
use Rattle.player.specs.declared.stop.ProcessorStop.{ProcessorStop}
use Rattle.report_judge.specs.Reported.{IsReported}
use Rattle.report_judge.specs.Verdicts.{IsVerdict}
use Rattle.report_judge.specs.declared.judge.VerifyFault.{VerifyFault}
use Rattle.report_laws.proofs.OneVerdict.{verified}
use Rattle.report_laws.specs.OneVerdict.{IsSameVerdict}
use Rattle.report_reader.specs.Reading.{acts_in, read_report, stops_in}
use Rattle.shown_sectors.specs.Sectors.{sectors_after}
use Rattle.tal_tree.specs.declared.act.Act.{Act}
use Rattle.trace_print.specs.declared.closing.End.{End}
use Rattle.told_reports.proofs.ReadBack.{report-read}
use Rattle.told_reports.specs.InForm.{IsInForm}
use Rattle.told_reports.specs.NamesApart.{TellsNamesApart}
use Rattle.command_dues.specs.Decided.{IsReportOf}
use Rattle.command_dues.specs.RunEnds.{acts_of_run, closing_of}
use Rattle.command_dues.specs.Written.{text_of_run}
use Rattle.command_dues.specs.declared.due.Report.{Report}
use Rattle.command_dues.specs.declared.task.Telling.TheVariants.{Lines}
use Rattle.reported_runs.proofs.Reports.{run-reported}
use Rattle.trace_print.specs.declared.closing.Closing.TheVariants.{Ended}
use Rattle.reported_runs.specs.Unmirrored.{AreUnmirrored}

pub run-verified : (deck : Deck) (stop : Option ProcessorStop) (report : Report) (how : End)
    (verdict : Result ℕ VerifyFault) → AreUnmirrored deck.site.processes
    → IsReportOf deck stop report → closing_of report.run.ran.ending ≡ Ended how → report.tells ≡ Lines true
    → TellsNamesApart deck.site
    → IsInForm deck.site (shown_by deck.site (acts_of_run report.run))
    (sectors_after deck.site (shown_by deck.site (acts_of_run report.run))) report.stopped (acts_of_run report.run)
    how
    → IsVerdict deck.site (text_of_run report) verdict
    → IsSameVerdict verdict (Ok (length (acts_of_run report.run)))
run-verified deck stop report how verdict none is ended tells apart form judged =
    let acts = acts_of_run report.run in
    let shown = shown_by deck.site acts in
    let reported = run-reported deck stop report is none how ended tells in
    let read = report-read deck.site shown (sectors_after deck.site shown) report.stopped acts how apart form in
    let whole : IsReported deck.site (text_of_run report) (acts_in read.0.told) (stops_in read.0.told) read.0.end =
    subst (λ (e : End). IsReported deck.site (text_of_run report) (acts_in read.0.told) (stops_in read.0.told) e)
    (sym read.4)
    (subst (λ (s : List ℕ). IsReported deck.site (text_of_run report) (acts_in read.0.told) s how) (sym read.3)
    (subst (λ (a : List Act). IsReported deck.site (text_of_run report) a report.stopped how) (sym read.2) reported)) in
    subst (λ (a : List Act). IsSameVerdict verdict (Ok (length a))) read.2
    (verified deck.site (text_of_run report) read.0 verdict
    (ap (read_report deck.site) reported.text ∙ read.1) whole judged)
