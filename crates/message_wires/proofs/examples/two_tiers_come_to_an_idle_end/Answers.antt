use Rattle.message_wires.proofs.Tiers.{both_serve, idle, said, paid}
use Rattle.message_wires.proofs.examples.two_tiers_come_to_an_idle_end.Goals as goal

pub returns : goal.returns
returns c = record { both_serve = both_serve; idle = idle; shown = said; owed = paid }
