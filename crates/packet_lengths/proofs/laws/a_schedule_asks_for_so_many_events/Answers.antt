use Rattle.packet_lengths.proofs.Lengths.{so-many}
use Rattle.packet_lengths.proofs.laws.a_schedule_asks_for_so_many_events.Goals as goal

pub returns : goal.returns
returns c = so-many
