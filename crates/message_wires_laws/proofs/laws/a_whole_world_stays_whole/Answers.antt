use Rattle.message_wires_laws.proofs.Calm.{whole-kept}
use Rattle.message_wires_laws.proofs.laws.a_whole_world_stays_whole.Goals as goal

pub returns : goal.returns
returns c = λ s next event whole calm made. whole-kept s event next whole calm made
