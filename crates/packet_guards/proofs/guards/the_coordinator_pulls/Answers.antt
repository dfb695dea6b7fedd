use Rattle.packet_guards.proofs.Lines.{the-coordinator-pulls-unreported, the-coordinator-pulls-other}
use Rattle.packet_guards.proofs.Lines.{the-coordinator-pulls-lowest, the-coordinator-pulls-next-lowest}
use Rattle.packet_guards.proofs.Lines.{the-coordinator-pulls-pulls}
use Rattle.packet_guards.proofs.guards.the_coordinator_pulls.Goals as goal

pub returns : goal.returns
returns c = record {
  unreported = the-coordinator-pulls-unreported;
  other = the-coordinator-pulls-other;
  lowest = the-coordinator-pulls-lowest;
  next_lowest =
      the-coordinator-pulls-next-lowest;
  pulls = the-coordinator-pulls-pulls;
}
