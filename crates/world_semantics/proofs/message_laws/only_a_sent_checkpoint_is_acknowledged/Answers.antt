use Rattle.world_semantics.proofs.Becoming.{change-copy}
use Rattle.world_semantics.proofs.Exact.{only-told}
use Rattle.world_semantics.proofs.message_laws.only_a_sent_checkpoint_is_acknowledged.Goals as goal

pub returns : goal.returns
returns c = λ site w next cause sendings number before after k change there then was now.
    only-told (change-copy w next cause sendings number before after k change there then) was now
