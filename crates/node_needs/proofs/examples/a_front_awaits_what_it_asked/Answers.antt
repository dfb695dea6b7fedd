use Rattle.node_needs.proofs.Needed as needed
use Rattle.node_needs.proofs.examples.a_front_awaits_what_it_asked.Goals as goal

pub returns : goal.returns
returns c = record { acting = needed.acting; watching = needed.watching }
