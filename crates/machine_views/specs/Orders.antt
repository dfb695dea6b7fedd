-- The order of what is told.
use Rattle.std.specs.Prelude.{ℕ, ◌<◌, List, [], ◌∷◌}
use Rattle.gd_words.specs.Members.{IsAmong}

-- each number is below those after it
abbrev pub IsRising : List ℕ → Type 0
IsRising [] = Unit {0}
IsRising (number ∷ rest) = ((later : ℕ) → IsAmong later rest → number < later) × IsRising rest
