use Rattle.message_wires_laws.proofs.Ticks.{tick-again}
use Rattle.message_wires_laws.proofs.laws.what_is_owed_is_put_again.Goals as goal

pub returns : goal.returns
returns c = λ s next node one ticked owed sends runs. tick-again s next node one ticked owed sends runs
