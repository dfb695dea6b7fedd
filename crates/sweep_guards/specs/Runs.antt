-- What rows and sweeps are, run by run and row by row.
use Rattle.std.specs.Prelude.{◌≡◌, ℕ, List, [], ◌∷◌, Some}
use Rattle.schedule_sweeps.specs.packet_runs.specs.Ends.{IsRunOf}
use Rattle.schedule_sweeps.specs.packet_runs.specs.declared.ran.Ran.{Ran}
use Rattle.run_table.specs.Counts.{row_of}
use Rattle.run_table.specs.declared.rows.Row.{Row}
use Rattle.run_table.specs.declared.table.ProcessorRow.{ProcessorRow}
use Rattle.schedule.specs.declared.line.Line.{Line}
use Rattle.schedule_sweeps.specs.Sweeps.{IsRowOf, kind_of}
use Rattle.tal_tree.specs.declared.site.Site.{Site}

abbrev pub CountsNone : Row → Type 0
CountsNone row = row ≡ record { runs = 0; idle = 0; cut = 0; second = 0 }

pub record CountsTwo (site : Site) (lines : List Line) (processor : ℕ) (row : Row) : Type 0 where
  pub first : Ran
  pub last : Ran
  pub begins : IsRunOf site lines (Some (record { processor = processor; after = 0 })) first
  pub ends : IsRunOf site lines (Some (record { processor = processor; after = 1 })) last
  pub counts : row ≡ row_of (kind_of last.ending ∷ kind_of first.ending ∷ [])

pub record HasTwoRows (site : Site) (lines : List Line) (runs : ℕ) (rows : List ProcessorRow) : Type 0 where
  pub zero : Row
  pub one : Row
  pub both : rows ≡ record { processor = 0; row = zero } ∷ record { processor = 1; row = one } ∷ []
  pub of_zero : IsRowOf site lines 0 runs zero
  pub of_one : IsRowOf site lines 1 runs one
