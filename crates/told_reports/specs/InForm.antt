-- What a report may tell of a site, line by line.
use Rattle.std.specs.Prelude.{◌≡◌, ◌+◌, ◌<◌, ◌≤◌, ℕ, true, List, [], ◌∷◌, length, Some}
use Rattle.tal_tree.specs.gd_words.specs.declared.limits.TheConstants.{MOST_MESSAGE_WORDS}
use Rattle.report_reader.specs.Telling.{has_sector}
use Rattle.shown_sectors.specs.declared.sectors.SectorWords.{SectorWords}
use Rattle.tal_tree.specs.declared.act.Act.{Act}
use Rattle.tal_tree.specs.declared.act.Shown.{Shown}
use Rattle.tal_tree.specs.declared.act.Shown.TheVariants.{Write, Reply}
use Rattle.tal_tree.specs.declared.site.Site.{Site}
use Rattle.trace_print.specs.declared.closing.End.{End}
use Rattle.trace_print.specs.declared.closing.End.TheVariants.{Idle, Cut, Second}
use Rattle.told_reports.specs.NamesApart.{IsNamedAct}
use Rattle.told_reports.specs.Words.{AreWords}

-- a disc of the site has this sector, and these are eight words of 16 bits
pub record IsSectorOf (site : Site) (written : SectorWords) : Type 0 where
  pub within : written.process < length site.processes
  pub there : has_sector site (Some written.process) written.sector ≡ true
  pub small : written.sector < 4294967296
  pub words : AreWords written.words
  pub eight : length written.words ≡ 8

-- a write is of a sector; a reply is of a terminal of the site, with a number of 32 bits and at most 16 words
abbrev pub IsShownOn : Site → Shown → Type 0
IsShownOn site (Write process sector words) =
    IsSectorOf site (record { process = process; sector = sector; words = words })
IsShownOn site (Reply terminal number words) =
    (terminal < length site.terminals) × (number < 4294967296) × AreWords words × (length words ≤ MOST_MESSAGE_WORDS)

-- a processor of the site, with a number of 32 bits
abbrev pub IsProcessorOf : Site → ℕ → Type 0
IsProcessorOf site processor = (processor < site.processors) × (processor < 4294967296)

-- the end of a run of the site
abbrev pub IsEndOn : Site → End → Type 0
IsEndOn site Idle = Unit {0}
IsEndOn site Cut = Unit {0}
IsEndOn site (Second processor) = IsProcessorOf site processor
IsEndOn site _ = ⊥

-- each of a list is so
abbrev pub AreEach : {X : Type 0} → (X → Type 0) → List X → Type 0
AreEach P [] = Unit {0}
AreEach P (x ∷ xs) = P x × AreEach P xs

-- numbers rise, from one on
abbrev pub AreRisingFrom : ℕ → List ℕ → Type 0
AreRisingFrom least [] = Unit {0}
AreRisingFrom least (n ∷ numbers) = (least ≤ n) × AreRisingFrom (n + 1) numbers

-- all that a report tells is of the site, and the processors that have stopped rise
pub record IsInForm (site : Site) (shown : List Shown) (sectors : List SectorWords) (stopped : List ℕ)
    (acts : List Act) (how : End) : Type 0 where
  pub each_shown : AreEach (IsShownOn site) shown
  pub each_sector : AreEach (IsSectorOf site) sectors
  pub each_stopped : AreEach (IsProcessorOf site) stopped
  pub rising : AreRisingFrom 0 stopped
  pub each_act : AreEach (IsNamedAct site) acts
  pub ends : IsEndOn site how
