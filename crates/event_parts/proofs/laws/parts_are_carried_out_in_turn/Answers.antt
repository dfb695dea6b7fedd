use Rattle.event_parts.proofs.Adds.{adds-then}
use Rattle.event_parts.proofs.Turns.{carried-then}
use Rattle.event_parts.proofs.laws.parts_are_carried_out_in_turn.Goals as goal

pub returns : goal.returns
returns c = record { wires = carried-then; adds = adds-then }
