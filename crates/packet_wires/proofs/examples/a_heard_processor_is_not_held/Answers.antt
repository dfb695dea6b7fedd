use Rattle.packet_wires.proofs.Held.{heard-all}
use Rattle.packet_wires.proofs.examples.a_heard_processor_is_not_held.Goals as goal

pub returns : goal.returns
returns c = heard-all
