use Rattle.packet_guards.proofs.Buses.{an-acknowledgement-goes-first-all}
use Rattle.packet_guards.proofs.guards.an_acknowledgement_goes_first.Goals as goal

pub returns : goal.returns
returns c = an-acknowledgement-goes-first-all
