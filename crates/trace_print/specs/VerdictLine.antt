-- The line of a report that was judged.
use Rattle.std.specs.Prelude.{ℕ, List, [], ◌∷◌, ◌++◌, codes}
use Rattle.std.specs.Fmt.{decimal}

-- `VERIFIED acts`
abbrev pub verified_line : ℕ → List ℕ
verified_line acts = codes "VERIFIED " ++ decimal acts ++ 10 ∷ []

-- `REJECTED line cause`
abbrev pub rejected_line : ℕ → ℕ → List ℕ
rejected_line line cause = codes "REJECTED " ++ decimal line ++ codes " " ++ decimal cause ++ 10 ∷ []
