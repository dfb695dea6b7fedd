-- The lines of a load's counts.
use Rattle.std.specs.Prelude.{List, ℕ, [], ◌∷◌, ◌++◌, codes}
use Rattle.std.specs.Fmt.{decimal}
use Rattle.trace_print.specs.declared.load.LoadCounts.{LoadCounts}

-- a word and a count
abbrev pub count_line : List ℕ → ℕ → List ℕ
count_line word count = word ++ decimal count ++ 10 ∷ []

-- `LOAD n`, the number of requests of each terminal, and `W count` and `R count`
abbrev pub load_lines : LoadCounts → List ℕ
load_lines counts = count_line (codes "LOAD ") counts.requests ++ count_line (codes "W ") counts.writes
    ++ count_line (codes "R ") counts.replies
