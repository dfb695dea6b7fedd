use Rattle.std.proofs.Common.{refl}
use Rattle.world_semantics.proofs.Exact.{only-kept}
use Rattle.world_semantics.proofs.message_laws.only_a_kept_reply_is_sent_again.Goals as goal

pub returns : goal.returns
returns c = λ site w next node request sendings sending change i.
    only-kept w next node request _ sendings sending refl change i
