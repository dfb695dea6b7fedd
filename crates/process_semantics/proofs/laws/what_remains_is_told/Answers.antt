use Rattle.process_semantics.proofs.Coming.{remains-comes}
use Rattle.process_semantics.proofs.Leading.{body-remains, leads-remains}
use Rattle.process_semantics.proofs.Told.{in-order, told, found}
use Rattle.process_semantics.proofs.laws.what_remains_is_told.Goals as goal

pub returns : goal.returns
returns c = record {
  told = λ body rest distinct positive remains. told body distinct positive rest remains;
  found = λ body number rest is. (found body number rest is).0;
  number = λ body number rest is. (found body number rest is).1;
  first = λ body. body-remains body;
  leads = λ body entry tail way remains on. leads-remains body entry tail way remains on;
  only = λ body rest remains. remains-comes body rest remains;
  order = λ body. in-order body;
}
