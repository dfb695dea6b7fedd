use Rattle.standing_links.proofs.Stands.{stands-as-it-is-got}
use Rattle.standing_links.proofs.laws.a_reply_that_is_got_breaks_the_link.Goals as goal

pub returns : goal.returns
returns c = stands-as-it-is-got
