-- The numbers of the letters that are owed rise along them. Our own rule: a sending has a higher number than those
-- before it.
use Rattle.std.specs.Prelude.{ℕ, ◌+◌, ◌≤◌, List, [], ◌∷◌}
use Rattle.message_wires.specs.Wires.{Sent}

-- the numbers of letters are at least one number, rise, and stay below another one
abbrev pub RisesWithin : ℕ → ℕ → List Sent → Type 0
RisesWithin low high [] = low ≤ high
RisesWithin low high (one ∷ rest) = (low ≤ one.number) × RisesWithin (one.number + 1) high rest

-- the numbers of letters rise
abbrev pub Rises : List Sent → Type 0
Rises all = (high : ℕ) × RisesWithin 0 high all
