use Rattle.packet_nets.proofs.Sending.{rest-ties}
use Rattle.packet_nets.proofs.laws.what_is_sent_is_in_flight.Goals as goal

pub returns : goal.returns
returns c = λ site stopped reloads wires midst owed sent tied. rest-ties wires midst tied
