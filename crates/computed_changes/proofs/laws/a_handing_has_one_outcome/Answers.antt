use Rattle.world_semantics.specs.Messages.{Handing}
use Rattle.computed_changes.specs.Handed.{handed_done}
use Rattle.computed_changes.proofs.Outcomes.{idle-where, run-only}
use Rattle.computed_changes.proofs.laws.a_handing_has_one_outcome.Goals as goal

pub returns : goal.returns
returns c = record {
  only = λ site events w next node message sendings run apart fitting change.
      run-only w next node message sendings run apart fitting change;
  none = λ site events w node message run apart fitting e.
      idle-where site w (Handing node message) (handed_done site node message w)
      (λ next sendings change. run-only w next node message sendings run apart fitting change) e;
}
