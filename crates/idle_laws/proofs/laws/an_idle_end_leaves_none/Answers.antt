use Rattle.idle_end.proofs.Held.{held-ended}
use Rattle.idle_end.proofs.Reached.{end-of}
use Rattle.idle_end.proofs.Still.{none-left, closed-shows-nothing, same-state}
use Rattle.idle_laws.proofs.Ended.{played-ends}
use Rattle.idle_laws.proofs.laws.an_idle_end_leaves_none.Goals as goal

pub returns : goal.returns
returns c = record {
  none = λ site events post accepted out few played idle.
      none-left (end-of (played-ends site events post accepted out few played idle));
  shown = λ site events post accepted out few played idle.
      closed-shows-nothing (end-of (played-ends site events post accepted out few played idle));
  state = λ site events post made number pair k one accepted out few played idle.
      same-state (end-of (played-ends site events post accepted out few played idle)) made number pair k one;
  ended = λ site events post number pair k accepted out few played idle.
      held-ended (end-of (played-ends site events post accepted out few played idle)) number pair k;
}
