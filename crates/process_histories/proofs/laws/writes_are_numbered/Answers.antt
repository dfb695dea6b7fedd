use Rattle.process_histories.proofs.Writes.{last-count, write-count, stored-most, write-new, write-there, write-done}
use Rattle.process_histories.proofs.laws.writes_are_numbered.Goals as goal

pub returns : goal.returns
returns c = record {
  last = λ site number spec deeds core done. last-count done;
  next = λ site number spec deeds core sector write words found done. write-count {found = found} done;
  most = λ site number spec deeds core sector stored done there. stored-most done sector stored there;
  new = λ site number spec deeds core sector write words found done. write-new {found = found} done;
  there = λ site number spec deeds core sector write words found done. write-there {found = found} done;
  written = λ site number spec deeds core sector write words found done. write-done {found = found} done;
}
