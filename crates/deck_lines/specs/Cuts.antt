-- Cutting a text at a sign.
use Rattle.std.specs.Prelude.{ℕ, Bool, List, [], ◌∷◌, if◌then◌else◌}

-- what stands before the first sign that passes
abbrev pub front_of : (ℕ → Bool) → List ℕ → List ℕ
front_of passes [] = []
front_of passes (c ∷ cs) = if passes c then [] else c ∷ front_of passes cs

-- the rest from the first sign that passes on
abbrev pub back_of : (ℕ → Bool) → List ℕ → List ℕ
back_of passes [] = []
back_of passes (c ∷ cs) = if passes c then c ∷ cs else back_of passes cs
