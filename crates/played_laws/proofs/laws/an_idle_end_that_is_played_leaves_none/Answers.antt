use Rattle.idle_end.proofs.Held.{held-ended}
use Rattle.idle_end.proofs.Reached.{end-of}
use Rattle.idle_end.proofs.Still.{none-left, closed-shows-nothing, same-state}
use Rattle.played_laws.proofs.Joined.{ends}
use Rattle.played_laws.proofs.laws.an_idle_end_that_is_played_leaves_none.Goals as goal

pub returns : goal.returns
returns c = record {
  none = λ site events s accepted out few played idle.
      none-left (end-of (ends site accepted out events s few played idle).1);
  shown = λ site events s accepted out few played idle.
      closed-shows-nothing (end-of (ends site accepted out events s few played idle).1);
  state = λ site events s made number pair k one accepted out few played idle.
      same-state (end-of (ends site accepted out events s few played idle).1) made number pair k one;
  ended = λ site events s number pair k accepted out few played idle.
      held-ended (end-of (ends site accepted out events s few played idle).1) number pair k;
}
