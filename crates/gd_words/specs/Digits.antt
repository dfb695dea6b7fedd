-- What digits stand for.
use Rattle.std.specs.Prelude.{ℕ, ◌+◌, ◌-◌, ◌*◌, List, [], ◌∷◌}

-- the number that digits stand for in a base, after the value of the digits before them
abbrev pub value_from : ℕ → ℕ → List ℕ → ℕ
value_from base value [] = value
value_from base value (c ∷ digits) = value_from base (value * base + (c - 48)) digits
