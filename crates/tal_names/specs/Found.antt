-- Where a name is found, for the invariant of `Names`; no contract shows it.
use Rattle.std.specs.Prelude.{ℕ, suc, List, [], ◌∷◌, Option, Some, None, option_map, if◌then◌else◌}
use Rattle.tal_names.specs.Names.{Declarations, same}

-- how many declarations stand before that of a name
abbrev pub place_in : List ℕ → Declarations → Option ℕ
place_in name [] = None
place_in name (d ∷ ds) = if same name d.0 then Some 0 else option_map suc (place_in name ds)
