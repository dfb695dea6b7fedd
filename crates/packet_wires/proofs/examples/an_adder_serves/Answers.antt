use Rattle.packet_wires.proofs.Served.{serving-checkpoint, serving-answer, serving-shown, serving-idle}
use Rattle.packet_wires.proofs.examples.an_adder_serves.Goals as goal

pub returns : goal.returns
returns c = record {
  checkpoint = serving-checkpoint;
  answer = serving-answer;
  shown = serving-shown;
  idle = serving-idle;
}
