use Rattle.world_semantics.specs.Messages.{Reloading}
use Rattle.computed_changes.specs.Stopped.{reload_done}
use Rattle.computed_changes.proofs.Stopped.{reload-may, reload-only}
use Rattle.computed_changes.proofs.Outcomes.{idle-where, reload-follows}
use Rattle.computed_changes.proofs.laws.a_reload_is_computed.Goals as goal

pub returns : goal.returns
returns c = record {
  made = λ site w processor done e. reload-may site processor w done e;
  only = λ site w next processor sendings change. reload-only processor w next sendings change;
  none = λ site w processor e.
      idle-where site w (Reloading processor) (reload_done site processor w)
      (λ next sendings change. reload-only processor w next sendings change) e;
  follows = reload-follows;
}
