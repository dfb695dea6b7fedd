use Rattle.round_laws.proofs.Delivering.{all-delivered}
use Rattle.packet_rounds.specs.Played.{IsPlay, buses_of}
use Rattle.packet_rounds.proofs.Buses.{has-buses}
use Rattle.packet_rounds.proofs.laws.a_round_over_packets_delivers_all.Goals as goal

pub returns : goal.returns
returns c sizes = all-delivered sizes buses_of IsPlay has-buses
