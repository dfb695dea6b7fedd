-- The processors that have stopped. Our own rule.
use Rattle.std.specs.Prelude.{ℕ, ◌+◌, Bool, true, false, List, [], ◌∷◌}

-- those among processors from a number on, rising
abbrev pub stopped_from : ℕ → List Bool → List ℕ
stopped_from number [] = []
stopped_from number (true ∷ rest) = number ∷ stopped_from (number + 1) rest
stopped_from number (false ∷ rest) = stopped_from (number + 1) rest
