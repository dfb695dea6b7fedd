use Rattle.message_wires_laws.proofs.Idle.{idle-both}
use Rattle.message_wires_laws.proofs.laws.an_idle_state_is_idle.Goals as goal

pub returns : goal.returns
returns c = λ s sent. idle-both s sent
