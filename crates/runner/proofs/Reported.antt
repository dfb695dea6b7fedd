-- The report of a run tells what the laws say of it.
use Rattle.std.proofs.Common.{◌≡◌, ℕ, Bool, List, Option, ap, ◌∙◌}
use Rattle.accepted_decks.specs.Left.{KeepsPossibleActs}
use Rattle.command_dues.specs.deck_reader.specs.declared.deck.Deck.{Deck}
use Rattle.player.specs.declared.stop.ProcessorStop.{ProcessorStop}
use Rattle.command_dues.specs.packet_runs.specs.Ends.{IsRunOf}
use Rattle.shown_sectors.specs.Sectors.{sectors_after}
use Rattle.shown_sectors.specs.declared.sectors.SectorWords.{SectorWords}
use Rattle.tal_tree.specs.declared.act.Act.{Act}
use Rattle.tal_tree.specs.declared.act.Shown.{Shown}
use Rattle.tal_tree.specs.declared.site.Site.{Site}
use Rattle.command_dues.specs.trace_print.specs.ReportText.{load_report_text, run_text}
use Rattle.command_dues.specs.trace_print.specs.declared.closing.Closing.{Closing}
use Rattle.command_dues.specs.trace_print.specs.declared.load.LoadCounts.{LoadCounts}
use Rattle.command_dues.specs.trace_print.specs.declared.mirrors.MirrorDrives.{MirrorDrives}
use Rattle.command_dues.specs.Decided.{IsReportOf}
use Rattle.command_dues.specs.RunEnds.{closing_of, load_counts, shown_in}
use Rattle.command_dues.specs.Mirrors.{mirrors_from}
use Rattle.command_dues.specs.site_machine.specs.Stopped.{stopped_from}
use Rattle.command_dues.specs.Written.{text_telling, told_acts}
use Rattle.command_dues.specs.declared.due.Report.{Report}
use Rattle.command_dues.specs.declared.task.Telling.TheVariants.{Lines, Counts}

pub reported : (deck : Deck) (stop : Option ProcessorStop) (report : Report) → report.site ≡ deck.site
    → IsRunOf deck.site deck.lines stop report.run.ran
    → KeepsPossibleActs deck.site report.run.ran → report.sectors ≡ sectors_after deck.site (shown_in report.run)
    → report.mirrors ≡ mirrors_from 0 deck.site.processes report.run.ran.machine.state.drives
    → report.stopped ≡ stopped_from 0 report.run.ran.machine.state.world.stopped → IsReportOf deck stop report
reported deck stop report site run keeps sectors mirrors stopped = record {
  site = site;
  run = run;
  possible = keeps.possible;
  shown = keeps.shown;
  none = keeps.none;
  sectors = sectors;
  mirrors = mirrors;
  stopped = stopped;
}

-- the text of what stands in a report is the text that tells of it
pub lines_are : (report : Report) (tells_acts : Bool) (site : Site) (shown : List Shown) (sectors : List SectorWords)
    (mirrors : List MirrorDrives) (stopped : List ℕ) (acts : List Act) (closing : Closing)
    → site ≡ report.site → shown ≡ shown_in report.run → sectors ≡ report.sectors → mirrors ≡ report.mirrors
    → stopped ≡ report.stopped → acts ≡ told_acts tells_acts report.run
    → closing ≡ closing_of report.run.ran.ending → run_text site shown sectors mirrors stopped acts closing
    ≡ text_telling (Lines tells_acts) report
lines_are report tells_acts site shown sectors mirrors stopped acts closing is_site is_shown is_sectors is_mirrors
    is_stopped is_acts is_closing =
    ap (λ x. run_text x shown sectors mirrors stopped acts closing) is_site
    ∙ ap (λ x. run_text report.site x sectors mirrors stopped acts closing) is_shown
    ∙ ap (λ x. run_text report.site (shown_in report.run) x mirrors stopped acts closing) is_sectors
    ∙ ap (λ x. run_text report.site (shown_in report.run) report.sectors x stopped acts closing) is_mirrors
    ∙ ap (λ x. run_text report.site (shown_in report.run) report.sectors report.mirrors x acts closing) is_stopped
    ∙ ap (λ x. run_text report.site (shown_in report.run) report.sectors report.mirrors report.stopped x closing)
    is_acts
    ∙ ap (λ x. run_text report.site (shown_in report.run) report.sectors report.mirrors report.stopped
    (told_acts tells_acts report.run) x) is_closing

pub counts_are : (report : Report) (requests : ℕ) (site : Site) (counts : LoadCounts) (sectors : List SectorWords)
    (stopped : List ℕ) (closing : Closing)
    → site ≡ report.site → counts ≡ load_counts requests report.run → sectors ≡ report.sectors
    → stopped ≡ report.stopped
    → closing ≡ closing_of report.run.ran.ending → load_report_text site counts sectors stopped closing
    ≡ text_telling (Counts requests) report
counts_are report requests site counts sectors stopped closing is_site is_counts is_sectors is_stopped is_closing =
    ap (λ x. load_report_text x counts sectors stopped closing) is_site
    ∙ ap (λ x. load_report_text report.site x sectors stopped closing) is_counts
    ∙ ap (λ x. load_report_text report.site (load_counts requests report.run) x stopped closing) is_sectors
    ∙ ap (λ x. load_report_text report.site (load_counts requests report.run) report.sectors x closing) is_stopped
    ∙ ap (λ x. load_report_text report.site (load_counts requests report.run) report.sectors report.stopped x)
    is_closing
