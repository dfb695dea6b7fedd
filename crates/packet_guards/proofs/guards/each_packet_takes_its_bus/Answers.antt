use Rattle.packet_guards.proofs.Rooms.{over-x, over-y}
use Rattle.packet_guards.proofs.guards.each_packet_takes_its_bus.Goals as goal

pub returns : goal.returns
returns c = record { x = over-x; y = over-y }
