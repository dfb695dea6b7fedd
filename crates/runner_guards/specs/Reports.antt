-- Runs that the guards name.
use Rattle.std.specs.Prelude.{List}
use Rattle.tal_tree.specs.declared.act.Act.{Act}
use Rattle.tal_tree.specs.declared.act.Shown.{Shown}
use Rattle.world_semantics.specs.World.{World}
use Rattle.command_dues.specs.declared.outcome.RunEnd.{RunEnd}

-- a run that ended in this world
abbrev pub ended_in : World → RunEnd → RunEnd
ended_in w run = record run {
  ran = record run.ran
      { machine = record run.ran.machine { state = record run.ran.machine.state { world = w } } };
}

-- a run that showed this, and one that kept these acts, the newest first
abbrev pub showing : List Shown → RunEnd → RunEnd
showing shown run = ended_in (record run.ran.machine.state.world { shown = shown }) run

abbrev pub keeping : List Act → RunEnd → RunEnd
keeping acts run = ended_in (record run.ran.machine.state.world { kept = acts }) run
