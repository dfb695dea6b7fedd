use Rattle.std.proofs.Common.{◌≡◌, ◌-◌, ◌==◌, not}
use Rattle.std.specs.List.{filter}
use Rattle.event_parts.specs.packet_wires.specs.Nodes.{numbers, others}
use Rattle.event_parts.specs.packet_wires.specs.Wires.{alive_at, at_end, for_each}
use Rattle.event_parts.specs.Parts.{carried_out}
use Rattle.node.proofs.wires.PacketWires.tell_alive.Given as goal

abbrev pub invariant-loop-to : goal.invariant-loop-to
invariant-loop-to l =
    carried_out (for_each (λ y. at_end l.from y alive_at)
    (filter (λ other. not (other == l.from)) (numbers l.to (l.processors - l.to)))) l.self
    ≡ carried_out (for_each (λ y. at_end l.fn.from y alive_at) (others l.fn.processors l.fn.from)) l.fn.self
