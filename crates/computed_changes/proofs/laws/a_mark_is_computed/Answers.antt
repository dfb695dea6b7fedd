use Rattle.world_semantics.specs.Messages.{MarkingDown}
use Rattle.computed_changes.specs.Stopped.{down_done}
use Rattle.computed_changes.proofs.Stopped.{mark-may, mark-only}
use Rattle.computed_changes.proofs.Outcomes.{idle-where, mark-follows}
use Rattle.computed_changes.proofs.laws.a_mark_is_computed.Goals as goal

pub returns : goal.returns
returns c = record {
  made = λ site w node processor done e. mark-may site node processor w done e;
  only = λ site w next node processor sendings change. mark-only node processor w next sendings change;
  none = λ site w node processor e.
      idle-where site w (MarkingDown node processor) (down_done node processor w)
      (λ next sendings change. mark-only node processor w next sendings change) e;
  follows = mark-follows;
}
