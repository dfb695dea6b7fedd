use Rattle.packet_guards.proofs.Lines.{no-second-stop-line, no-second-stop-first, no-second-stop-fails}
use Rattle.packet_guards.proofs.Lines.{no-second-stop-again}
use Rattle.packet_guards.proofs.guards.no_second_stop.Goals as goal

pub returns : goal.returns
returns c = record {
  line = no-second-stop-line;
  first = no-second-stop-first;
  fails = no-second-stop-fails;
  again = no-second-stop-again;
}
