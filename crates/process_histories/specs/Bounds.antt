-- Deeds that are within bounds, as those of every run are.
use Rattle.std.specs.Prelude.{◌≤◌, ◌<◌, List, [], ◌∷◌, length}
use Rattle.gd_words.specs.declared.limits.TheConstants.{MOST_MESSAGE_WORDS, SECTOR_WORDS}
use Rattle.world_semantics.specs.Core.{Deed, Took, Acted}

-- a request that was taken has no more words than its limit, and a sector that was found no more than a sector has
abbrev pub IsShort : Deed → Type 0
IsShort (Took place words) = length words ≤ MOST_MESSAGE_WORDS
IsShort (Acted call found) = length found ≤ SECTOR_WORDS
IsShort _ = Unit {0}

abbrev pub AreShort : List Deed → Type 0
AreShort [] = Unit {0}
AreShort (deed ∷ deeds) = IsShort deed × AreShort deeds

-- there are fewer deeds than numbers of 32 bits, and each is short
pub record AreBounded (deeds : List Deed) : Type 0 where
  pub count : length deeds < 4294967296
  pub short : AreShort deeds
