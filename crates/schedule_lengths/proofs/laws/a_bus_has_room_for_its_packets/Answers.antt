use Rattle.schedule_runs.proofs.Buses.{played-few}
use Rattle.schedule_lengths.proofs.laws.a_bus_has_room_for_its_packets.Goals as goal

pub returns : goal.returns
returns c = played-few
