-- The ranges of numbers: request numbers, checkpoint numbers, eras, packets and the like have 32 bits, positions and
-- counts of letters 64. The ranges are our own.
use Rattle.std.specs.Prelude.{ℕ, ◌<◌}

-- a number of 32 bits that isn't the last one
abbrev pub HasNext : ℕ → Type 0
HasNext number = number < 4294967295

-- a number of 64 bits that isn't the last one
abbrev pub HasNextLong : ℕ → Type 0
HasNextLong number = number < 18446744073709551615
