use Rattle.link_laws.proofs.Once.{waiting-apart}
use Rattle.link_laws.proofs.laws.a_request_that_waits_has_one_link.Goals as goal

pub returns : goal.returns
returns c = λ site events w node apart run. waiting-apart site apart w run node
