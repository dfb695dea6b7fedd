use Rattle.idle_end.proofs.Held.{held-ended}
use Rattle.idle_end.proofs.Reached.{end-of}
use Rattle.idle_end.proofs.Still.{none-left, closed-shows-nothing, same-state}
use Rattle.idle_end.proofs.laws.an_idle_end_of_served_requests_leaves_none.Goals as goal

pub returns : goal.returns
returns c = record {
  none = λ site events post end. none-left (end-of end);
  shown = λ site events post end. closed-shows-nothing (end-of end);
  state = λ site events post m number pair k one end. same-state (end-of end) m number pair k one;
  ended = λ site events post number pair k end. held-ended (end-of end) number pair k;
}
