use Rattle.standing_links.proofs.Stands.{stands-as-it-is-sent}
use Rattle.standing_links.proofs.laws.a_request_that_is_sent_is_linked.Goals as goal

pub returns : goal.returns
returns c = stands-as-it-is-sent
