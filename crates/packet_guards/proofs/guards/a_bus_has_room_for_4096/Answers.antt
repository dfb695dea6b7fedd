use Rattle.packet_guards.proofs.Rooms.{room, full, last-there}
use Rattle.packet_guards.proofs.guards.a_bus_has_room_for_4096.Goals as goal

pub returns : goal.returns
returns c = record { room = room; full = full; last = last-there }
