use Rattle.world_semantics.proofs.Reached.{run-keeps-up}
use Rattle.world_semantics.proofs.message_laws.a_receiving_copy_keeps_up.Goals as goal

pub returns : goal.returns
returns c = λ site events w number pair k placed run there receiving.
    run-keeps-up placed run number pair there k receiving
