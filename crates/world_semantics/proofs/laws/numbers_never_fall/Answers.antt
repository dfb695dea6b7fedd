use Rattle.world_semantics.proofs.Numbers.{copies-go-on}
use Rattle.world_semantics.proofs.Reached.{terminal-later}
use Rattle.world_semantics.proofs.laws.numbers_never_fall.Goals as goal

pub returns : goal.returns
returns c = record {
  copies = λ site events more w end number before after k placed run l there then.
      copies-go-on placed run l number before after there then k;
  terminals = λ site events w end number before after l there then. terminal-later l number before after there then;
}
