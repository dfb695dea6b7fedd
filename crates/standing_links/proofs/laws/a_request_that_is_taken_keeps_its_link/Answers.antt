use Rattle.standing_links.proofs.Stands.{stands-as-it-is-taken}
use Rattle.standing_links.proofs.laws.a_request_that_is_taken_keeps_its_link.Goals as goal

pub returns : goal.returns
returns c = stands-as-it-is-taken
