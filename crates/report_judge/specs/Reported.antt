-- A report of a run, judged by the machine of single unfailing processes alone. After Bartlett's paper: a process pair
-- does what one process does that never fails. How the schedule went is nothing that a report tells.
use Rattle.std.specs.Prelude.{◌≡◌, ◌<◌, ◌≤◌, ℕ, ◌+◌, List, [], ◌∷◌}
use Rattle.plain_semantics.specs.Machine.{IsNoneLeft, IsPossible, shown_by}
use Rattle.shown_sectors.specs.Sectors.{sectors_after}
use Rattle.tal_tree.specs.declared.act.Act.{Act}
use Rattle.tal_tree.specs.declared.site.Site.{Site}
use Rattle.report_reader.specs.trace_print.specs.ReportText.{report_text}
use Rattle.report_reader.specs.trace_print.specs.declared.closing.End.{End}
use Rattle.report_reader.specs.trace_print.specs.declared.closing.End.TheVariants.{Idle, Cut, Second}

-- processors from a number on and below another, rising
abbrev pub AreRising : ℕ → ℕ → List ℕ → Type 0
AreRising least bound [] = Unit {0}
AreRising least bound (processor ∷ processors) =
    (least ≤ processor) × (processor < bound) × AreRising (processor + 1) bound processors

-- how a run of the site ends: idle, cut, or where this second processor of it would have stopped
abbrev pub IsEndOfRun : Site → End → Type 0
IsEndOfRun site Idle = Unit {0}
IsEndOfRun site Cut = Unit {0}
IsEndOfRun site (Second processor) = processor < site.processors
IsEndOfRun site _ = ⊥

-- the acts are possible on the machine of single unfailing processes; the report is the one of what they show there,
-- with these processors of the site that have stopped and this end; and after an idle end no act is possible
pub record IsReported (site : Site) (report : List ℕ) (acts : List Act) (stopped : List ℕ) (end : End) : Type 0 where
  pub possible : IsPossible site acts
  pub rising : AreRising 0 site.processors stopped
  pub ends : IsEndOfRun site end
  pub text : report ≡ report_text site (shown_by site acts) (sectors_after site (shown_by site acts)) stopped acts end
  pub idle : end ≡ Idle → IsNoneLeft site acts
