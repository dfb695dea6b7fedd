use Rattle.std.proofs.Common.{◌≡◌, ◌-◌, ◌==◌, not}
use Rattle.std.specs.List.{filter}
use Rattle.event_parts.specs.packet_wires.specs.Nodes.{numbers, others}
use Rattle.event_parts.specs.packet_wires.specs.Wires.{at_end, for_each, push_at}
use Rattle.event_parts.specs.Numbers.{CanPush}
use Rattle.event_parts.specs.Parts.{carried_out}
use Rattle.node.proofs.wires.PacketWires.send_others.Given as goal

abbrev pub invariant-loop-to : goal.invariant-loop-to
invariant-loop-to l = record {
  sent : carried_out (for_each (λ y. at_end l.from y (push_at l.from y l.words))
      (filter (λ other. not (other == l.from)) (numbers l.to (l.processors - l.to)))) l.self
      ≡ carried_out (for_each (λ y. at_end l.fn.from y (push_at l.fn.from y l.fn.words))
      (others l.fn.processors l.fn.from)) l.fn.self;
  numbered : CanPush l.self.nodes;
}
