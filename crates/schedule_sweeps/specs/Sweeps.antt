-- What a sweep of a schedule counts. Our own rule.
use Rattle.std.specs.Prelude.{◌≡◌, ℕ, ◌+◌, List, [], ◌∷◌, length, Some}
use Rattle.packet_runs.specs.Ends.{IsRunOf}
use Rattle.packet_runs.specs.declared.ran.Ran.{Ran}
use Rattle.player.specs.declared.stop.ProcessorStop.{ProcessorStop}
use Rattle.run_table.specs.Counts.{row_of}
use Rattle.run_table.specs.declared.rows.Row.{Row}
use Rattle.run_table.specs.declared.rows.RunKind.{RunKind}
use Rattle.run_table.specs.declared.rows.RunKind.TheVariants as kind
use Rattle.run_table.specs.declared.table.ProcessorRow.{ProcessorRow}
use Rattle.schedule.specs.declared.line.Line.{Line}
use Rattle.schedule_loop.specs.declared.ran.Ending.{Ending}
use Rattle.schedule_loop.specs.declared.ran.Ending.TheVariants.{Idle, Cut, Lost, Second}
use Rattle.tal_tree.specs.declared.site.Site.{Site}

-- the kind of a run that ended so
abbrev pub kind_of : Ending → RunKind
kind_of Idle = kind.Idle
kind_of Cut = kind.Cut
kind_of (Second processor) = kind.Second
kind_of (Lost process) = kind.Cut

-- a run of the schedule with this stop is of this kind
abbrev pub IsKindOf : Site → List Line → ProcessorStop → RunKind → Type 0
IsKindOf site lines stop how = (ran : Ran) × IsRunOf site lines (Some stop) ran × (how ≡ kind_of ran.ending)

-- the kinds of the runs with a stop of the processor after 0, 1, 2 and more events, the last first
abbrev pub AreKindsOf : Site → List Line → ℕ → List RunKind → Type 0
AreKindsOf site lines processor [] = Unit {0}
AreKindsOf site lines processor (how ∷ rest) =
    IsKindOf site lines (record { processor = processor; after = length rest }) how
    × AreKindsOf site lines processor rest

-- the row of a processor counts as many runs: those with a stop of it after each number of events below this one, each
-- by its kind
pub record IsRowOf (site : Site) (lines : List Line) (processor runs : ℕ) (row : Row) : Type 0 where
  pub kinds : List RunKind
  pub many : length kinds ≡ runs
  pub made : AreKindsOf site lines processor kinds
  pub counts : row ≡ row_of kinds

-- the rows are those of the processors from a number on, rising
abbrev pub AreRowsFrom : Site → List Line → ℕ → ℕ → List ProcessorRow → Type 0
AreRowsFrom site lines runs processor [] = Unit {0}
AreRowsFrom site lines runs processor (one ∷ rest) =
    (one.processor ≡ processor) × IsRowOf site lines processor runs one.row
    × AreRowsFrom site lines runs (processor + 1) rest

-- a sweep of the schedule has the row of each processor of the site
pub record IsSweepOf (site : Site) (lines : List Line) (runs : ℕ) (rows : List ProcessorRow) : Type 0 where
  pub all : length rows ≡ site.processors
  pub rising : AreRowsFrom site lines runs 0 rows
