use Rattle.packet_nets.proofs.Ticking.{begins}
use Rattle.packet_nets.proofs.laws.wires_begin_owing_nothing.Goals as goal

pub returns : goal.returns
returns c = begins
