use Rattle.standing_links.proofs.Stands.{stands-for-nothing}
use Rattle.standing_links.proofs.laws.no_links_stand_for_nothing.Goals as goal

pub returns : goal.returns
returns c = stands-for-nothing
