-- A table of sectors, a row for each process; only the clauses of private functions cite it.
use Rattle.std.specs.Prelude.{ℕ, ◌+◌, ℤ, List, [], ◌∷◌, ◌++◌, replicate, slice_get, slice_set, Option, Some, None}
use Rattle.tal_tree.specs.declared.act.Shown.{Shown}
use Rattle.tal_tree.specs.declared.act.Shown.TheVariants.{Write, Reply}
use Rattle.tal_tree.specs.declared.site.Kind.{Kind}
use Rattle.tal_tree.specs.declared.site.ProcessSpec.{ProcessSpec}
use Rattle.shown_sectors.specs.Sectors.{sector_count, sector_with}
use Rattle.shown_sectors.specs.declared.sectors.SectorWords.{SectorWords}

-- the sectors of a process: the words of each, none where it hasn't been written
abbrev pub Row : Type 0
Row = List (Option (List ℤ))

-- the sectors of a process, none of them written
abbrev pub blank_row : Kind → Row
blank_row what = replicate (sector_count what) None

-- those of processes
abbrev pub blank_rows : List ProcessSpec → List Row
blank_rows [] = []
blank_rows (spec ∷ specs) = blank_row spec.what ∷ blank_rows specs

-- the rows with one of them changed, if it is there
abbrev pub row_put : List Row → ℕ → ℕ → List ℤ → Option Row → List Row
row_put rows process sector words None = rows
row_put rows process sector words (Some row) = slice_set rows process (slice_set row sector (Some words))

-- the rows after what is shown
abbrev pub rows_with : List Row → Shown → List Row
rows_with rows (Write process sector words) = row_put rows process sector words (slice_get rows process)
rows_with rows (Reply terminal number words) = rows

abbrev pub rows_after : List Row → List Shown → List Row
rows_after rows [] = rows
rows_after rows (one ∷ shown) = rows_after (rows_with rows one) shown

-- what has been written of a row, from a sector on
abbrev pub row_sectors : ℕ → ℕ → Row → List SectorWords
row_sectors process sector [] = []
row_sectors process sector (words ∷ row) = sector_with process sector words ++ row_sectors process (sector + 1) row

-- what has been written of rows, from a process on
abbrev pub rows_sectors : ℕ → List Row → List SectorWords
rows_sectors process [] = []
rows_sectors process (row ∷ rows) = row_sectors process 0 row ++ rows_sectors (process + 1) rows
