use Rattle.packets_laws.proofs.Marks.{marks-same, marks-stopped}
use Rattle.packets_laws.proofs.laws.only_what_has_stopped_is_marked.Goals as goal

pub returns : goal.returns
returns c = record {
  stopped = λ site events s mark fit small out few played. marks-stopped site events s fit small out few played mark;
  one = λ site events s one other fit small out few played. marks-same site events s fit small out few played one other;
}
