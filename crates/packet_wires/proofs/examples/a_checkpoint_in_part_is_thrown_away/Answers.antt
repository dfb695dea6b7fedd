use Rattle.packet_wires.proofs.Stopped.{part-stopped, part-alone, part-marked, part-shown, part-idle}
use Rattle.packet_wires.proofs.examples.a_checkpoint_in_part_is_thrown_away.Goals as goal

pub returns : goal.returns
returns c = record {
  stopped = part-stopped;
  alone = part-alone;
  marked = part-marked;
  shown = part-shown;
  idle = part-idle;
}
