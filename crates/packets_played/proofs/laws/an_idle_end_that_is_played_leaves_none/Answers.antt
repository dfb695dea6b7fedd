use Rattle.idle_laws.specs.idle_end.proofs.Reached.{end-of}
use Rattle.idle_laws.specs.idle_end.proofs.Still.{none-left, closed-shows-nothing, same-state}
use Rattle.packets_played.proofs.Joined.{ends}
use Rattle.packets_played.proofs.laws.an_idle_end_that_is_played_leaves_none.Goals as goal

pub returns : goal.returns
returns c = record {
  none = λ site events s accepted keeps out few played idle.
      none-left (end-of (ends site accepted keeps out events s few played idle).2);
  shown = λ site events s accepted keeps out few played idle.
      closed-shows-nothing (end-of (ends site accepted keeps out events s few played idle).2);
  state = λ site events s made number pair k one accepted keeps out few played idle.
      same-state (end-of (ends site accepted keeps out events s few played idle).2) made number pair k one;
}
