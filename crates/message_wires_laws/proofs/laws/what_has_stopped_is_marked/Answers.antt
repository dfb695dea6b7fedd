use Rattle.message_wires_laws.proofs.Marks.{tick-downs}
use Rattle.message_wires_laws.proofs.laws.what_has_stopped_is_marked.Goals as goal

pub returns : goal.returns
returns c = λ s next node processor ticked stopped. tick-downs s next node processor ticked stopped
