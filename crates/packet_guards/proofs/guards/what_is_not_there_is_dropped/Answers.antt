use Rattle.packet_guards.proofs.Words.{what-is-not-there-is-dropped-none, what-is-not-there-is-dropped-more}
use Rattle.packet_guards.proofs.Words.{what-is-not-there-is-dropped-down, what-is-not-there-is-dropped-processor}
use Rattle.packet_guards.proofs.Words.{what-is-not-there-is-dropped-terminals, what-is-not-there-is-dropped-member}
use Rattle.packet_guards.proofs.Words.{what-is-not-there-is-dropped-process, what-is-not-there-is-dropped-opener}
use Rattle.packet_guards.proofs.guards.what_is_not_there_is_dropped.Goals as goal

pub returns : goal.returns
returns c = record {
  none = what-is-not-there-is-dropped-none;
  more = what-is-not-there-is-dropped-more;
  down = what-is-not-there-is-dropped-down;
  processor = what-is-not-there-is-dropped-processor;
  terminals =
      what-is-not-there-is-dropped-terminals;
  member = what-is-not-there-is-dropped-member;
  process =
      what-is-not-there-is-dropped-process;
  opener = what-is-not-there-is-dropped-opener;
}
