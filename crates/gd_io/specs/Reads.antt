-- What reading all bytes of a source does to them.
use Rattle.std.specs.Prelude.{◌≡◌, ℕ, ◌+◌, ◌<◌, ◌≤◌, List, [], Option, Some, None, Result, Ok, Err, length, drop}
use Rattle.gd_io.specs.declared.reading.SourceFault.{SourceFault}
use Rattle.gd_io.specs.declared.reading.SourceFault.TheVariants.{Failed, TooLong, NoMemory}

-- where a source tells its bytes, these were left and the rest is left now
abbrev pub Leaves : Option (List ℕ) → Option (List ℕ) → List ℕ → List ℕ → Type 0
Leaves None now bytes rest = Unit {0}
Leaves (Some left) now bytes rest = (left ≡ bytes) × (now ≡ Some rest)

-- at most `most` bytes are given back as they are, more are refused after one byte too many; if reading fails or memory
-- runs out, what was not yet taken is left
abbrev pub ReadsAll : ℕ → List ℕ → List ℕ → Result (List ℕ) SourceFault → Type 0
ReadsAll most bytes rest (Ok all) = (all ≡ bytes) × (length bytes ≤ most) × (rest ≡ [])
ReadsAll most bytes rest (Err TooLong) = (most < length bytes) × (rest ≡ drop (most + 1) bytes)
ReadsAll most bytes rest (Err Failed) = (n : ℕ) × (n ≤ most) × (rest ≡ drop n bytes)
ReadsAll most bytes rest (Err (NoMemory _)) = (n : ℕ) × (n ≤ most + 1) × (rest ≡ drop n bytes)

-- the bytes that are left, which are the told ones where the source tells them, are read so
abbrev pub ReadsFrom : ℕ → Option (List ℕ) → Option (List ℕ) → Result (List ℕ) SourceFault → Type 0
ReadsFrom most old new result =
    (bytes : List ℕ) × (rest : List ℕ) × Leaves old new bytes rest × ReadsAll most bytes rest result
