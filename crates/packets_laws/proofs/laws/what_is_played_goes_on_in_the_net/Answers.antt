use Rattle.packet_nets.proofs.Ticking.{begins-net}
use Rattle.packets_laws.proofs.Passing.{event-passes, reload-loads, tick-passed}
use Rattle.packets_laws.proofs.laws.what_is_played_goes_on_in_the_net.Goals as goal

pub returns : goal.returns
returns c = record { begins = begins-net; event = event-passes; reload = reload-loads; tick = tick-passed }
