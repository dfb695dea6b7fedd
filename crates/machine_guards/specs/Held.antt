-- What the copies of a process hold, for the law on the closed run.
use Rattle.std.specs.Prelude.{List, ◌++◌, reverse}
use Rattle.tal_tree.specs.declared.act.Act.{Act}
use Rattle.world_semantics.specs.World.{Pair}

-- what both copies hold, the oldest first: the acts of the first copy, and then those of the second one
abbrev pub held_by : Pair → List Act
held_by pair = reverse pair.first.held ++ reverse pair.second.held
