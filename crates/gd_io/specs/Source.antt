-- What a call for bytes does to the bytes that are left.
use Rattle.std.specs.Prelude.{◌≡◌, ℕ, ◌≤◌, List, Option, length, take}
use Rattle.std.specs.Io.KnownBytes.{Consumes, IsAtEnd, Keeps}
use Rattle.gd_io.specs.declared.source.Took.{Took}
use Rattle.gd_io.specs.declared.source.Took.TheVariants.{Got, End, Failed}

-- told bytes go in order into the start of the room, none only at the end; every other answer leaves them
abbrev pub TakesInto : Option (List ℕ) → Option (List ℕ) → List ℕ → Took → Type 0
TakesInto old new room (Got n) = (n ≤ length room) × Consumes old new (take n room) × (n ≡ 0 → IsAtEnd new)
TakesInto old new room End = IsAtEnd new × Keeps old new
TakesInto old new room Failed = Keeps old new
