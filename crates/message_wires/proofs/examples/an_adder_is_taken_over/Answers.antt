use Rattle.message_wires.proofs.Played.{before, after, dropped, said, paid}
use Rattle.message_wires.proofs.examples.an_adder_is_taken_over.Goals as goal

pub returns : goal.returns
returns c = record { before = before; after = after; dropped = dropped; shown = said; owed = paid }
