-- What stands on the sectors that were written.
use Rattle.std.specs.Prelude.{ℕ, zero, suc, ◌+◌, ℤ, ◌==◌, ◌&&◌, if◌then◌else◌, List, [], ◌∷◌, ◌++◌, Option, Some, None}
use Rattle.tal_tree.specs.declared.act.Shown.{Shown}
use Rattle.tal_tree.specs.declared.act.Shown.TheVariants.{Write, Reply}
use Rattle.tal_tree.specs.declared.site.Kind.{Kind}
use Rattle.tal_tree.specs.declared.site.Kind.TheVariants as kind
use Rattle.tal_tree.specs.declared.site.ProcessSpec.{ProcessSpec}
use Rattle.tal_tree.specs.declared.site.Site.{Site}
use Rattle.shown_sectors.specs.declared.sectors.SectorWords.{SectorWords}

-- the words that are written on a sector of a process, if this shows a write on it
abbrev pub written_on : ℕ → ℕ → Shown → Option (List ℤ)
written_on process sector (Write there at words) = if (there == process) && (at == sector) then Some words else None
written_on process sector (Reply terminal number words) = None

-- the later words where there are such, else the earlier ones
abbrev pub later_of : Option (List ℤ) → Option (List ℤ) → Option (List ℤ)
later_of earlier (Some words) = Some words
later_of earlier None = earlier

-- the words of the last write on a sector among what is shown, if there is one
abbrev pub last_written : ℕ → ℕ → List Shown → Option (List ℤ)
last_written process sector [] = None
last_written process sector (one ∷ shown) = later_of (written_on process sector one) (last_written process sector shown)

-- a sector with its words, if it has been written
abbrev pub sector_with : ℕ → ℕ → Option (List ℤ) → List SectorWords
sector_with process sector None = []
sector_with process sector (Some words) = record { process = process; sector = sector; words = words } ∷ []

-- so many sectors of a process from one on, those that have been written, rising
abbrev pub sectors_from : ℕ → List Shown → ℕ → ℕ → List SectorWords
sectors_from process shown sector zero = []
sectors_from process shown sector (suc left) =
    sector_with process sector (last_written process sector shown) ++ sectors_from process shown (sector + 1) left

-- how many sectors a process has: those of a disc
abbrev pub sector_count : Kind → ℕ
sector_count (kind.Disc sectors mirrored) = sectors
sector_count (kind.Pair program) = 0

-- those of processes, from a place in the deck on
abbrev pub sectors_of : List Shown → ℕ → List ProcessSpec → List SectorWords
sectors_of shown number [] = []
sectors_of shown number (spec ∷ specs) =
    sectors_from number shown 0 (sector_count spec.what) ++ sectors_of shown (number + 1) specs

-- each sector of a disc of the site that a shown write names, with the words of the last such write, discs in deck
-- order and sectors rising
abbrev pub sectors_after : Site → List Shown → List SectorWords
sectors_after site shown = sectors_of shown 0 site.processes
