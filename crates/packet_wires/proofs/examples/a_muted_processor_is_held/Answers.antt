use Rattle.packet_wires.proofs.Held.{held-before, held-stopped, held-marks, held-buses}
use Rattle.packet_wires.proofs.examples.a_muted_processor_is_held.Goals as goal

pub returns : goal.returns
returns c = record { before = held-before; stopped = held-stopped; marks = held-marks; buses = held-buses }
