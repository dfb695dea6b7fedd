use Rattle.std.proofs.Common.{subst, sym}
use Rattle.message_wires.specs.Play.{MachineState}
use Rattle.world_copies.specs.Room.{AllWatchersHaveRoom}
use Rattle.pair_machine.proofs.whole.MachineParts.mark_world.Goals as goal

pub mark-requires : goal.mark-requires
mark-requires c = subst (λ (s : MachineState). AllWatchersHaveRoom s.world.processes) (sym c.self.view_is) c.requires
