-- Sectors with the numbers of their writes, and what a write makes of them.
use Rattle.std.specs.Prelude.{ℕ, ◌==◌, ℤ, pos, Bool, false, if◌then◌else◌, List, replicate, slice_get, slice_set}
use Rattle.std.specs.Prelude.{Option, Some, None}
use Rattle.mirror.specs.declared.stored.Stored.{Stored}
use Rattle.gd_words.specs.declared.limits.TheConstants.{SECTOR_WORDS}

-- a sector on which nothing was written: zeros, and number 0
abbrev pub blank : Stored
blank = record { words = replicate SECTOR_WORDS (pos 0); number = 0 }

-- so many sectors on which nothing was written
abbrev pub blanks : ℕ → List Stored
blanks count = replicate count blank

-- whether there is a sector, and the write of this number put its words
abbrev pub is_of_write : Option Stored → ℕ → Bool
is_of_write None number = false
is_of_write (Some stored) number = stored.number == number

-- whether a sector has the words that the write of this number put
abbrev pub is_written : List Stored → ℕ → ℕ → Bool
is_written sectors sector number = is_of_write (slice_get sectors sector) number

-- the sectors after a write: its words and its number stand on its sector, and a write that was done already changes
-- nothing
abbrev pub stored_after : List Stored → ℕ → List ℤ → ℕ → List Stored
stored_after sectors sector words number =
    if is_written sectors sector number then sectors else slice_set sectors sector
    (record { words = words; number = number })
