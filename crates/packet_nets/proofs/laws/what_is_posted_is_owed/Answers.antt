use Rattle.packet_nets.proofs.Sending.{all-posted-ties}
use Rattle.packet_nets.proofs.laws.what_is_posted_is_owed.Goals as goal

pub returns : goal.returns
returns c = λ site stopped reloads on midst owed sent parcels tied fit. all-posted-ties parcels midst fit tied
