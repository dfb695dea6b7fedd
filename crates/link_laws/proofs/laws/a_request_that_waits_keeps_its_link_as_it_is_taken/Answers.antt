use Rattle.std.proofs.Common.{refl}
use Rattle.world_semantics.specs.Messages.{Running}
use Rattle.link_laws.proofs.Taken.{run-keeps-waiting}
use Rattle.link_laws.proofs.laws.a_request_that_waits_keeps_its_link_as_it_is_taken.Goals as goal

pub returns : goal.returns
returns c = λ site events w next number sendings node request run change waits.
    run-keeps-waiting site events w run node request next number (Running number) sendings change refl waits
