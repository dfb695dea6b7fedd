use Rattle.world_semantics.proofs.Tidy.{run-tidy}
use Rattle.world_semantics.proofs.message_laws.one_request_of_an_opener_waits.Goals as goal

pub returns : goal.returns
returns c = λ site events w number opener pair k run there. (run-tidy run number pair there k).single.single opener
