use Rattle.message_layout.proofs.Again.{known-again, unknown-dropped}
use Rattle.message_layout.proofs.Exact.{understood-known}
use Rattle.message_layout.proofs.laws.a_site_drops_what_it_has_not.Goals as goal

pub returns : goal.returns
returns c = record { known = known-again; dropped = unknown-dropped; only = understood-known }
