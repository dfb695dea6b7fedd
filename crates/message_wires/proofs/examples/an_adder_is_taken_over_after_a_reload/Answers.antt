use Rattle.message_wires.proofs.Reloaded.{in_parts, on_its_way, stopped, said, paid}
use Rattle.message_wires.proofs.examples.an_adder_is_taken_over_after_a_reload.Goals as goal

pub returns : goal.returns
returns c = record { blank = in_parts; on_its_way = on_its_way; stops = stopped; shown = said; owed = paid }
