-- What a put does to the bytes that are held.
use Rattle.std.specs.Prelude.{ℕ, ◌+◌, ◌-◌, ◌<◌, ◌≤◌, List, Option, length, take}
use Rattle.std.specs.Io.KnownBytes.{Appends, Keeps}
use Rattle.gd_io.specs.declared.sink.Gave.{Gave}
use Rattle.gd_io.specs.declared.sink.Gave.TheVariants.{Gone, Failed}

-- told bytes grow by the first ones of the piece, none only of an empty piece; a fault leaves them
abbrev pub GivesTo : Option (List ℕ) → Option (List ℕ) → List ℕ → Gave → Type 0
GivesTo old new piece (Gone n) = (n ≤ length piece) × Appends old new (take n piece) × (0 < length piece → 0 < n)
GivesTo old new piece Failed = Keeps old new

-- a sink that was sure of a piece and n bytes more has no fault, and is sure of what is left of the piece and n more
abbrev pub StaysSure : (ℕ → Type 0) → List ℕ → ℕ → Gave → Type 0
StaysSure sure piece n (Gone k) = sure (length piece - k + n)
StaysSure sure piece n Failed = ⊥
