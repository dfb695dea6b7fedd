use Rattle.packet_rounds.proofs.Examples.{four-end, three-wait}
use Rattle.packet_rounds.proofs.guards.a_lost_piece_needs_four_rounds.Goals as goal

pub returns : goal.returns
returns c = record { three = three-wait; four = four-end }
