use Rattle.world_semantics.proofs.Exact.{only-printed}
use Rattle.world_semantics.proofs.message_laws.only_the_awaited_reply_is_printed.Goals as goal

pub returns : goal.returns
returns c = λ site w next cause sendings more terminal number words change e i.
    only-printed w next cause sendings more terminal number words change e i
