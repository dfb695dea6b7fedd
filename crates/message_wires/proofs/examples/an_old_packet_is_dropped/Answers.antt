use Rattle.message_wires.proofs.Reloaded.{before, after, waits, roles, unpaid}
use Rattle.message_wires.proofs.examples.an_old_packet_is_dropped.Goals as goal

pub returns : goal.returns
returns c = record { before = before; after = after; waits = waits; roles = roles; owed = unpaid }
