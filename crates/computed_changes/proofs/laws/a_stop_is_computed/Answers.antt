use Rattle.world_semantics.specs.Messages.{Stopping}
use Rattle.computed_changes.specs.Stopped.{stop_done}
use Rattle.computed_changes.proofs.Stopped.{stop-may, stop-only}
use Rattle.computed_changes.proofs.Outcomes.{idle-where, stop-follows, nothing-follows}
use Rattle.computed_changes.proofs.laws.a_stop_is_computed.Goals as goal

pub returns : goal.returns
returns c = record {
  made = λ site w processor done e. stop-may site processor w done e;
  only = λ site w next processor sendings change. stop-only processor w next sendings change;
  none = λ site w processor e.
      idle-where site w (Stopping processor) (stop_done processor w)
      (λ next sendings change. stop-only processor w next sendings change) e;
  follows = stop-follows;
  ends = λ site w next processor sendings runs parts follows.
      nothing-follows processor w next sendings runs parts follows;
}
