use Rattle.standing_links.proofs.Stands.{stands-as-read, stands-as-replied}
use Rattle.standing_links.proofs.laws.links_stand_as_they_are_read_and_answered.Goals as goal

pub returns : goal.returns
returns c = record { read = stands-as-read; replied = stands-as-replied }
