use Rattle.packet_wires.proofs.Served.{again-all}
use Rattle.packet_wires.proofs.examples.a_lost_piece_is_sent_again.Goals as goal

pub returns : goal.returns
returns c = again-all
