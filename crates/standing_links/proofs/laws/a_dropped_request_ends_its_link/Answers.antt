use Rattle.standing_links.proofs.Stands.{stands-as-it-is-dropped}
use Rattle.standing_links.proofs.laws.a_dropped_request_ends_its_link.Goals as goal

pub returns : goal.returns
returns c = stands-as-it-is-dropped
