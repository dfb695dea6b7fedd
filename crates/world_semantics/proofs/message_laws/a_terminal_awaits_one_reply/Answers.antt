use Rattle.world_semantics.proofs.Terminals.{run-awaits}
use Rattle.world_semantics.proofs.message_laws.a_terminal_awaits_one_reply.Goals as goal

pub returns : goal.returns
returns c = λ site events w number terminal run there. let one =
    run-awaits run number terminal there in (one.printed, one.entered)
