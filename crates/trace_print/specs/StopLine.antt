-- The line of a processor that has stopped. Our own rule.
use Rattle.std.specs.Prelude.{List, ℕ, [], ◌∷◌, ◌++◌, flat_map, codes}
use Rattle.std.specs.Fmt.{decimal}

-- `S processor`
abbrev pub stop_line : ℕ → List ℕ
stop_line processor = codes "S " ++ decimal processor ++ 10 ∷ []

-- the lines of processors, in order
abbrev pub stop_lines : List ℕ → List ℕ
stop_lines stopped = flat_map stop_line stopped
