use Rattle.packets_laws.proofs.Newest.{first-goes, later-goes}
use Rattle.packets_laws.proofs.laws.later_checkpoints_go_as_what_changed.Goals as goal

pub returns : goal.returns
returns c = record {
  first = λ site events w message placed run newest is. first-goes w placed run message is;
  later = λ site events w message placed run newest later. later-goes w placed run message newest later;
}
