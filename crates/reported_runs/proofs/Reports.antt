-- The report of a run is a reported run.
use Rattle.std.proofs.Common.{◌≡◌, ◌≤◌, ℕ, ◌+◌, Bool, true, false, List, [], ◌∷◌, ◌++◌, length, slice_get, Option}
use Rattle.std.proofs.Common.{Some, inl}
use Rattle.std.proofs.Common.{inr, refl}
use Rattle.std.proofs.Common.{sym, ap, subst, ◌∙◌, append-nil, arith}
use Rattle.plain_semantics.specs.Machine.{IsNoneLeft, shown_by}
use Rattle.shown_sectors.specs.Sectors.{sectors_after}
use Rattle.shown_sectors.specs.declared.sectors.SectorWords.{SectorWords}
use Rattle.tal_tree.specs.declared.act.Act.{Act}
use Rattle.tal_tree.specs.declared.act.Shown.{Shown}
use Rattle.tal_tree.specs.declared.site.Kind.{Kind}
use Rattle.tal_tree.specs.declared.site.Kind.TheVariants as kind
use Rattle.tal_tree.specs.declared.site.ProcessSpec.{ProcessSpec}
use Rattle.tal_tree.specs.declared.site.Site.{Site}
use Rattle.command_words.specs.Asked.{asked_by}
use Rattle.command_words.specs.declared.asked.Command.{Command}
use Rattle.command_words.specs.declared.asked.Command.TheVariants.{Run}
use Rattle.deck_reader.specs.Decks.{Decks}
use Rattle.deck_reader.specs.declared.deck.Deck.{Deck}
use Rattle.player.specs.declared.stop.ProcessorStop.{ProcessorStop}
use Rattle.schedule_loop.specs.declared.ran.Ending.{Ending}
use Rattle.schedule_loop.specs.declared.ran.Ending.TheVariants as ending
use Rattle.trace_print.specs.ActLine.{act_lines}
use Rattle.trace_print.specs.EndLine.{end_line}
use Rattle.trace_print.specs.ReportText.{report_text, run_text}
use Rattle.trace_print.specs.SectorLine.{sector_lines}
use Rattle.trace_print.specs.ShownLine.{shown_lines}
use Rattle.trace_print.specs.StopLine.{stop_lines}
use Rattle.trace_print.specs.declared.closing.Closing.{Closing}
use Rattle.trace_print.specs.declared.closing.Closing.TheVariants.{Ended}
use Rattle.trace_print.specs.declared.closing.End.{End}
use Rattle.trace_print.specs.declared.closing.End.TheVariants.{Idle}
use Rattle.trace_print.specs.declared.mirrors.MirrorDrives.{MirrorDrives}
use Rattle.trace_print.specs.mirror.specs.declared.state.DriveState.{DriveState}
use Rattle.report_judge.specs.Reported.{AreRising, IsReported}
use Rattle.command_dues.specs.Decided.{IsDue, IsDueOn, IsReportOf}
use Rattle.command_dues.specs.Mirrors.{mirror_at, mirrors_from}
use Rattle.command_dues.specs.RunEnds.{acts_of_run, closing_of, shown_in}
use Rattle.command_dues.specs.site_machine.specs.Stopped.{stopped_from}
use Rattle.command_dues.specs.Written.{text_of, text_of_run, text_telling}
use Rattle.command_dues.specs.declared.due.Due.TheVariants as due
use Rattle.command_dues.specs.declared.due.Report.{Report}
use Rattle.command_dues.specs.declared.task.Telling.{Telling}
use Rattle.command_dues.specs.declared.task.Telling.TheVariants.{Lines}
use Rattle.reported_runs.specs.Unmirrored.{AreUnmirrored, is_mirrored}
use Rattle.reported_runs.proofs.Stops.{run-of-site}
use Rattle.std.specs.Option.{unwrap_or}

-- the processors that have stopped rise
least-less : (least more bound : ℕ) (processors : List ℕ) → least ≤ more → AreRising more bound processors
    → AreRising least bound processors
least-less least more bound [] less rising = tt
least-less least more bound (processor ∷ processors) less rising = (omega (arith, less, rising.0), rising.1, rising.2)

stopped-rising : (number bound : ℕ) (stopped : List Bool) → number + length stopped ≤ bound
    → AreRising number bound (stopped_from number stopped)
stopped-rising number bound [] within = tt
stopped-rising number bound (true ∷ rest) within =
    (omega arith, omega (arith, within), stopped-rising (number + 1) bound rest (omega (arith, within)))
stopped-rising number bound (false ∷ rest) within =
    least-less number (number + 1) bound (stopped_from (number + 1) rest) (omega arith)
    (stopped-rising (number + 1) bound rest (omega (arith, within)))

-- none is left after an idle end
idle-end : (site : Site) (acts : List Act) (how : Ending) (end : End) → (how ≡ ending.Idle → IsNoneLeft site acts)
    → closing_of how ≡ Ended end → end ≡ Idle → IsNoneLeft site acts
idle-end site acts ending.Idle end none is idle = none refl
idle-end site acts ending.Cut end none is idle = absurd (cc)
idle-end site acts (ending.Second processor) end none is idle = absurd (cc)
idle-end site acts (ending.Lost process) end none is idle = absurd (cc)

-- a site without mirrored discs has no drives to tell of
none-told : (number : ℕ) (specs : List ProcessSpec) (drives : List (List DriveState)) → AreUnmirrored specs
    → mirrors_from number specs drives ≡ []
none-told number [] drives none = refl
none-told number (spec ∷ specs) drives none = by spec.what none.0 (none-told (number + 1) specs drives none.1)
  where
    by : (what : Kind) → is_mirrored what ≡ false → mirrors_from (number + 1) specs drives ≡ []
        → mirror_at number what (unwrap_or (slice_get drives number) []) ++ mirrors_from (number + 1) specs drives ≡ []
    by (kind.Disc sectors false) is later = later
    by (kind.Disc sectors true) is later = absurd (cc)
    by (kind.Pair program) is later = later

-- a report that tells of no drives
unmirrored : (site : Site) (shown : List Shown) (sectors : List SectorWords) (stopped : List ℕ) (acts : List Act)
    (end : End)
    → run_text site shown sectors [] stopped acts (Ended end) ≡ report_text site shown sectors stopped acts end
unmirrored site shown sectors stopped acts end =
    ap (λ (text : List ℕ). text ++ stop_lines stopped ++ act_lines site acts ++ end_line end)
    (append-nil (shown_lines site shown ++ sector_lines site sectors))

module _ (deck : Deck) (stop : Option ProcessorStop) (report : Report) (is : IsReportOf deck stop report)
    (none : AreUnmirrored deck.site.processes) (end : End) (ended : closing_of report.run.ran.ending ≡ Ended end) where
  text-reported : report.tells ≡ Lines true → text_of_run report
      ≡ report_text deck.site (shown_by deck.site (acts_of_run report.run))
      (sectors_after deck.site (shown_by deck.site (acts_of_run report.run))) report.stopped (acts_of_run report.run)
      end
  text-reported tells =
      ap (λ (how : Telling). text_telling how report) tells
      ∙ ap (λ (site : Site). run_text site (shown_in report.run) report.sectors report.mirrors report.stopped
      (acts_of_run report.run) (closing_of report.run.ran.ending)) is.site
      ∙ ap (λ (mirrors : List MirrorDrives). run_text deck.site (shown_in report.run) report.sectors mirrors
      report.stopped (acts_of_run report.run) (closing_of report.run.ran.ending))
      (is.mirrors ∙ none-told 0 deck.site.processes report.run.ran.machine.state.drives none)
      ∙ ap (λ (closing : Closing). run_text deck.site (shown_in report.run) report.sectors [] report.stopped
      (acts_of_run report.run) closing) ended
      ∙ unmirrored deck.site (shown_in report.run) report.sectors report.stopped (acts_of_run report.run) end
      ∙ ap (λ sectors. report_text deck.site (shown_in report.run) sectors report.stopped (acts_of_run report.run) end)
      is.sectors
      ∙ ap (λ (shown : List Shown). report_text deck.site shown (sectors_after deck.site shown) report.stopped
      (acts_of_run report.run) end) is.shown

  pub run-reported : report.tells ≡ Lines true
      → IsReported deck.site (text_of_run report) (acts_of_run report.run) report.stopped end
  run-reported tells =
      let known = run-of-site deck.site deck.lines stop report.run.ran is.run in
      record {
        possible = is.possible;
        rising = subst (AreRising 0 deck.site.processors) (sym is.stopped)
            (stopped-rising 0 deck.site.processors report.run.ran.machine.state.world.stopped
            (omega (arith, known.size)));
        ends = known.end end ended;
        text = text-reported tells;
        idle = idle-end deck.site (acts_of_run report.run) report.run.ran.ending end is.none ended;
      }

pub written-reported : (words : List (List ℕ)) (bytes : List ℕ) (before now : ℕ) (stop : Option ProcessorStop)
    (report : Report) (end : End)
    → asked_by words ≡ Some (Run true stop) → IsDue words (Some bytes) before now (due.Report report)
    → closing_of report.run.ran.ending ≡ Ended end
    → (deck : Deck) × Decks bytes deck × (AreUnmirrored deck.site.processes
    → IsReported deck.site (text_of (due.Report report)) (acts_of_run report.run) report.stopped end)
written-reported words bytes before now stop report end asked (inl none) ended = absurd (cc)
written-reported words bytes before now stop report end asked (inr is) ended =
    by (subst (λ (c : Option Command). IsDueOn c (Some bytes) before now (due.Report report)) asked is)
  where
    by : IsDueOn (Some (Run true stop)) (Some bytes) before now (due.Report report)
        → (deck : Deck) × Decks bytes deck × (AreUnmirrored deck.site.processes
        → IsReported deck.site (text_of (due.Report report)) (acts_of_run report.run) report.stopped end)
    by (found, told, (deck, decks, (able, (accepted, (run, tells))))) = (
      deck,
      subst (λ (all : List ℕ). Decks all deck) (sym told) decks,
      λ none. run-reported deck stop report run none end ended tells,
    )
