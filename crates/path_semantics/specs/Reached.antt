-- Where a list of numbers may lead, as a list: once for each walk by them.
use Rattle.std.specs.Prelude.{ℕ, ◌==◌, Bool, false, ◌&&◌, if◌then◌else◌, List, [], ◌∷◌, flat_map, Option, Some, None}
use Rattle.tal_tree.specs.declared.program.Program.{Program}
use Rattle.path_semantics.specs.declared.reason.Reason.{Reason}
use Rattle.path_semantics.specs.Place.{Stand, successors, first_stand}
use Rattle.path_semantics.specs.Path.{number_at}
use Rattle.path_semantics.specs.Break.{breaks_at}

abbrev pub is_number : ℕ → Option ℕ → Bool
is_number number None = false
is_number number (Some next) = next == number

-- whether the next entry has this number
abbrev pub is_next : ℕ → Stand → Bool
is_next number stand = is_number number (number_at stand)

-- where a step of this number may lead
abbrev pub stepped : Program → ℕ → Stand → List Stand
stepped program number stand = if is_next number stand then successors program stand else []

abbrev pub reached_from : Program → List Stand → List ℕ → List Stand
reached_from program stands [] = stands
reached_from program stands (number ∷ path) = reached_from program (flat_map (stepped program number) stands) path

-- the stands to which a path leads
abbrev pub reached : Program → List ℕ → List Stand
reached program path = reached_from program (first_stand program ∷ []) path

-- whether a statement of this number comes next and breaks for a reason
abbrev pub breaks_next : Program → Reason → ℕ → Stand → Bool
breaks_next program reason number stand = is_next number stand && breaks_at program reason stand
