-- The line of a sector that was written.
use Rattle.std.specs.Prelude.{List, ℕ, [], ◌∷◌, ◌++◌, flat_map, codes}
use Rattle.std.specs.Fmt.{decimal}
use Rattle.shown_sectors.specs.declared.sectors.SectorWords.{SectorWords}
use Rattle.tal_tree.specs.declared.site.Site.{Site}
use Rattle.trace_print.specs.NumbersText.{words_text}
use Rattle.trace_print.specs.ShownLine.{process_name}

-- `D NAME sector: words`
abbrev pub sector_line : Site → SectorWords → List ℕ
sector_line site written = codes "D " ++ process_name site written.process ++ codes " " ++ decimal written.sector
    ++ codes ":" ++ words_text written.words ++ 10 ∷ []

-- the lines of sectors, in order
abbrev pub sector_lines : Site → List SectorWords → List ℕ
sector_lines site sectors = flat_map (sector_line site) sectors
