use Rattle.standing_links.proofs.Stands.{stands-as-it-is-answered, stands-as-none-is-answered}
use Rattle.standing_links.proofs.laws.a_reply_ends_the_link_of_what_was_in_hand.Goals as goal

pub returns : goal.returns
returns c = record { linked = stands-as-it-is-answered; unlinked = stands-as-none-is-answered }
