use Rattle.world_semantics.proofs.Sent.{sends-what-it-has}
use Rattle.world_semantics.proofs.message_laws.a_copy_has_sent_what_it_has.Goals as goal

pub returns : goal.returns
returns c = λ site events w number pair k run there acts sent. sends-what-it-has run number pair k there acts sent
