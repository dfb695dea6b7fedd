use Rattle.std.proofs.Common.{◌≡◌, ◌-◌, ◌≤◌}
use Rattle.event_parts.specs.packet_wires.specs.Nodes.{numbers}
use Rattle.event_parts.specs.packet_wires.specs.Wires.{at_end, for_each, resends, tick_at}
use Rattle.event_parts.specs.Parts.{carried_out}
use Rattle.node.proofs.wires.PacketWires.resend_held.Given as goal

abbrev pub invariant-loop-to : goal.invariant-loop-to
invariant-loop-to l =
    (carried_out (for_each (λ y. at_end l.from y (tick_at l.from y)) (numbers l.next (17 - l.next))) l.self
    ≡ carried_out (resends l.fn.from) l.fn.self) × (l.next ≤ 17)

abbrev pub decreases-loop-to : goal.decreases-loop-to
decreases-loop-to l = 17 - l.next
