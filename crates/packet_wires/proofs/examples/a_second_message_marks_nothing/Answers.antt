use Rattle.packet_wires.proofs.Held.{twice-marks, twice-buses}
use Rattle.packet_wires.proofs.examples.a_second_message_marks_nothing.Goals as goal

pub returns : goal.returns
returns c = record { marks = twice-marks; buses = twice-buses }
