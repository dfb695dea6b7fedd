use Rattle.standing_links.proofs.Stands.{stands-as-it-waits}
use Rattle.standing_links.proofs.laws.a_request_that_waits_is_given_a_link.Goals as goal

pub returns : goal.returns
returns c = stands-as-it-waits
