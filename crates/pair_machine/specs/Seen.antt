-- What the parts of the machine show.
use Rattle.std.specs.Prelude.{Bool}
use Rattle.message_wires.specs.Play.{MachineState}
use Rattle.world_copies.specs.Closed.{closed_world}

-- a machine's state, and whether an allocation was once refused to it: then it answers so for good
pub record MachineStanding : Type 0 where
  pub is_broken : Bool
  pub state : MachineState

abbrev pub closed_state : MachineState → MachineState
closed_state s = record s { world = closed_world s.world }
