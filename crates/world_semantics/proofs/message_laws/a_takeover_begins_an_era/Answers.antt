use Rattle.world_semantics.proofs.Becoming.{change-copy}
use Rattle.world_semantics.proofs.Exact.{only-taken-over}
use Rattle.world_semantics.proofs.message_laws.a_takeover_begins_an_era.Goals as goal

pub returns : goal.returns
returns c = λ site w next cause sendings number before after k change there then was now.
    only-taken-over (change-copy w next cause sendings number before after k change there then) was now
