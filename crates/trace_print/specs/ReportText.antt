-- The text of a run's report.
use Rattle.std.specs.Prelude.{ℕ, List, ◌++◌}
use Rattle.shown_sectors.specs.declared.sectors.SectorWords.{SectorWords}
use Rattle.tal_tree.specs.declared.act.Act.{Act}
use Rattle.tal_tree.specs.declared.act.Shown.{Shown}
use Rattle.tal_tree.specs.declared.site.Site.{Site}
use Rattle.trace_print.specs.ActLine.{act_lines}
use Rattle.trace_print.specs.EndLine.{closing_line, end_line}
use Rattle.trace_print.specs.LoadLines.{load_lines}
use Rattle.trace_print.specs.MirrorLine.{mirror_lines}
use Rattle.trace_print.specs.SectorLine.{sector_lines}
use Rattle.trace_print.specs.ShownLine.{shown_lines}
use Rattle.trace_print.specs.StopLine.{stop_lines}
use Rattle.trace_print.specs.declared.closing.Closing.{Closing}
use Rattle.trace_print.specs.declared.closing.End.{End}
use Rattle.trace_print.specs.declared.load.LoadCounts.{LoadCounts}
use Rattle.trace_print.specs.declared.mirrors.MirrorDrives.{MirrorDrives}

-- what the run shows, the sectors that were written, how the drives of mirrored discs stand, the processors that have
-- stopped, the acts that it kept, and its end
abbrev pub run_text : Site → List Shown → List SectorWords → List MirrorDrives → List ℕ → List Act → Closing → List ℕ
run_text site shown sectors mirrors stopped acts closing =
    shown_lines site shown ++ sector_lines site sectors ++ mirror_lines site mirrors ++ stop_lines stopped
    ++ act_lines site acts ++ closing_line site closing

-- the same of a run without mirrored discs: what it shows, the sectors that were written, the processors that have
-- stopped, the acts that it kept, and its end
abbrev pub report_text : Site → List Shown → List SectorWords → List ℕ → List Act → End → List ℕ
report_text site shown sectors stopped acts end =
    shown_lines site shown ++ sector_lines site sectors ++ stop_lines stopped ++ act_lines site acts ++ end_line end

-- the same of a load: its counts in place of what it shows, and no acts
abbrev pub load_report_text : Site → LoadCounts → List SectorWords → List ℕ → Closing → List ℕ
load_report_text site counts sectors stopped closing =
    load_lines counts ++ sector_lines site sectors ++ stop_lines stopped ++ closing_line site closing
