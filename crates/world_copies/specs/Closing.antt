-- How a run is closed, process by process.
use Rattle.std.specs.Prelude.{ℕ, ◌++◌, drop, map, take, slice_get, slice_set, Option, Some, None}
use Rattle.world_semantics.specs.World.{Pair, World}
use Rattle.world_semantics.specs.Shares.{closed_by, closed_by_all, let_go}

abbrev pub closed_with : ℕ → World → Option Pair → World
closed_with place w None = w
closed_with place w (Some pair) =
    record w { kept = closed_by w.kept pair; processes = slice_set w.processes place (let_go pair) }

-- the world after the process at a place was closed, if it is there: what its copies held is kept
abbrev pub closed_at : ℕ → World → World
closed_at place w = closed_with place w (slice_get w.processes place)

-- the world after all processes from a place on were closed
abbrev pub closed_from : ℕ → World → World
closed_from place w = record w {
  kept = closed_by_all w.kept (drop place w.processes);
  processes = take place w.processes ++ map let_go (drop place w.processes);
}
