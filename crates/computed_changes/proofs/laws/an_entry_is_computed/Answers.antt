use Rattle.world_semantics.specs.Messages.{Entering}
use Rattle.computed_changes.specs.Entered.{enter_done}
use Rattle.computed_changes.proofs.Entered.{enter-may, enter-only}
use Rattle.computed_changes.proofs.Outcomes.{idle-where, enter-follows}
use Rattle.computed_changes.proofs.laws.an_entry_is_computed.Goals as goal

pub returns : goal.returns
returns c = record {
  made = λ site w number done e. enter-may site number w done e;
  only = λ site w next number sendings change. enter-only number w next sendings change;
  none = λ site w number e.
      idle-where site w (Entering number) (enter_done site number w)
      (λ next sendings change. enter-only number w next sendings change) e;
  follows = enter-follows;
}
