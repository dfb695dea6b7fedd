-- What a run leaves. After Bartlett's paper: a process pair does what one process does that never fails.
use Rattle.std.specs.Prelude.{◌≡◌, reverse}
use Rattle.tal_tree.specs.declared.site.Site.{Site}
use Rattle.plain_semantics.specs.Machine.{IsNoneLeft, IsPossible, shown_by}
use Rattle.packet_lengths.specs.world_semantics.specs.Kept.{acts_of}
use Rattle.packet_lengths.specs.packet_runs.specs.declared.ran.Ran.{Ran}
use Rattle.packet_lengths.specs.schedule_loop.specs.declared.ran.Ending.TheVariants.{Idle}

-- the acts that the run keeps are possible on the machine of single unfailing processes; what was shown, in order, is
-- what they show there; and where the run ended idle no act is possible after them
pub record KeepsPossibleActs (site : Site) (ran : Ran) : Type 0 where
  pub possible : IsPossible site (acts_of ran.machine.state.world)
  pub shown : reverse ran.machine.state.world.shown ≡ shown_by site (acts_of ran.machine.state.world)
  pub none : ran.ending ≡ Idle → IsNoneLeft site (acts_of ran.machine.state.world)
