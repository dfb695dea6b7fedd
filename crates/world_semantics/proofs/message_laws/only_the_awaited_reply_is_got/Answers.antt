use Rattle.std.proofs.Common.{refl}
use Rattle.world_semantics.proofs.Becoming.{change-copy}
use Rattle.world_semantics.proofs.Exact.{only-got}
use Rattle.world_semantics.proofs.message_laws.only_the_awaited_reply_is_got.Goals as goal

pub returns : goal.returns
returns c = λ site w next node reply sendings number before after k change there then.
    only-got (change-copy w next _ sendings number before after k change there then) refl
