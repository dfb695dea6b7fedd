use Rattle.packet_numbers.proofs.Rooms.{room-of}
use Rattle.packet_numbers.proofs.laws.the_world_has_room.Goals as goal

pub returns : goal.returns
returns c = λ site events post fit apart few played. room-of site events post fit apart few played
