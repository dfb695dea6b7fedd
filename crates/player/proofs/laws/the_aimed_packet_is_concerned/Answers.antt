use Rattle.player.proofs.Aims.{aimed-concerned}
use Rattle.player.proofs.laws.the_aimed_packet_is_concerned.Goals as goal

pub returns : goal.returns
returns c = aimed-concerned
