-- Words of 16 bits.
use Rattle.std.specs.Prelude.{◌≤◌, ℤ, pos, negsuc, List, [], ◌∷◌}

-- from -32,768 to 32,767
abbrev pub IsWord : ℤ → Type 0
IsWord (pos n) = n ≤ 32767
IsWord (negsuc n) = n ≤ 32767

abbrev pub AreWords : List ℤ → Type 0
AreWords [] = Unit {0}
AreWords (w ∷ words) = IsWord w × AreWords words
