use Rattle.packet_rounds.proofs.Examples.{four-stop, three-run}
use Rattle.packet_rounds.proofs.guards.who_hears_nothing_stops_one_that_runs.Goals as goal

pub returns : goal.returns
returns c = record { three = three-run; four = four-stop }
