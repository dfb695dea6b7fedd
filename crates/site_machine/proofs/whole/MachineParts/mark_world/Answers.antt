use Rattle.std.proofs.Common.{subst, sym}
use Rattle.node.specs.packet_wires.specs.Play.{Packeted}
use Rattle.open_links.specs.world_copies.specs.Room.{AllWatchersHaveRoom}
use Rattle.site_machine.proofs.whole.MachineParts.mark_world.Goals as goal

pub mark-requires : goal.mark-requires
mark-requires c = subst (λ (s : Packeted). AllWatchersHaveRoom s.world.processes) (sym c.self.view_is) c.requires
