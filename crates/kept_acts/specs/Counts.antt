-- A table beside the kept acts, from which it is told without a walk how many of them are each process's own. An act
-- names a process by a number below 256.
use Rattle.std.specs.Prelude.{◌≡◌, ◌<◌, ℕ, List, slice_get, Some, Option, None}
use Rattle.tal_tree.specs.declared.act.Act.{Act}
use Rattle.tal_tree.specs.declared.act.Act.TheVariants.{Step, Take, Enter, Print}
use Rattle.world_semantics.specs.Kept.{own_acts}

-- whose act it is, if it is a process's own
abbrev pub owner : Act → Option ℕ
owner (Step process) = Some process
owner (Take process place) = Some process
owner (Enter terminal) = None
owner (Print terminal) = None

-- a table says of each such process how many of these acts are its own
abbrev pub Counts : List ℕ → List Act → Type 0
Counts table acts = (number : ℕ) → number < 256 → slice_get table number ≡ Some (own_acts number acts)
