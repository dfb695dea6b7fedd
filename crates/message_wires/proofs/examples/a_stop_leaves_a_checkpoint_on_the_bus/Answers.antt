use Rattle.message_wires.proofs.Played.{in_time, late, left}
use Rattle.message_wires.proofs.examples.a_stop_leaves_a_checkpoint_on_the_bus.Goals as goal

pub returns : goal.returns
returns c = record { in_time = in_time; late = late; kept = left }
