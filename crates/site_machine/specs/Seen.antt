-- What the machine shows.
use Rattle.std.specs.Prelude.{Bool}
use Rattle.node.specs.packet_wires.specs.Play.{Packeted}
use Rattle.open_links.specs.world_copies.specs.Closed.{closed_world}

-- a machine's state, and whether an allocation was once refused to it: then it answers so for good
pub record MachineStanding : Type 0 where
  pub is_broken : Bool
  pub state : Packeted

abbrev pub closed_state : Packeted → Packeted
closed_state s = record s { world = closed_world s.world }
