use Rattle.std.proofs.Common.{refl}
use Rattle.world_semantics.proofs.Becoming.{change-copy}
use Rattle.world_semantics.proofs.Exact.{receiving-applies, others-stand}
use Rattle.world_semantics.proofs.message_laws.checkpoints_are_applied_in_order.Goals as goal

pub returns : goal.returns
returns c = record {
  receiving = λ site w next cause sendings number before after k change there then role.
      receiving-applies (change-copy w next cause sendings number before after k change there then) role;
  others = λ site w next node message sendings number before after k change there then other.
      others-stand (change-copy w next _ sendings number before after k change there then) refl other;
}
