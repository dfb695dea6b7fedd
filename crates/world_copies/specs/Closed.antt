-- How a run is closed. Our own rule.
use Rattle.std.specs.Prelude.{map}
use Rattle.world_semantics.specs.Shares.{closed_by_all, let_go}
use Rattle.world_semantics.specs.World.{World}

-- the world after its run was closed: what copies held is kept, and none holds an act any more
abbrev pub closed_world : World → World
closed_world w = record w { kept = closed_by_all w.kept w.processes; processes = map let_go w.processes }
