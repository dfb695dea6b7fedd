use Rattle.packet_lengths.proofs.Playable.{accepted-can}
use Rattle.packet_lengths.proofs.laws.an_accepted_site_can_be_played.Goals as goal

pub returns : goal.returns
returns c = accepted-can
