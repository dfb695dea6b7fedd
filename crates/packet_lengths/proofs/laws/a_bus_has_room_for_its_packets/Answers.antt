use Rattle.packet_lengths.proofs.Buses.{bus-few}
use Rattle.packet_lengths.proofs.laws.a_bus_has_room_for_its_packets.Goals as goal

pub returns : goal.returns
returns c = bus-few
