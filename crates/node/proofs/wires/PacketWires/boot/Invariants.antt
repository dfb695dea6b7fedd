use Rattle.std.proofs.Common.{◌≡◌, ◌-◌, ◌++◌, map}
use Rattle.event_parts.specs.packet_wires.specs.Nodes.{node_at_boot, nodes_at_boot, numbers}
use Rattle.node.proofs.wires.PacketWires.boot.Given as goal

abbrev pub invariant-loop-node : goal.invariant-loop-node
invariant-loop-node l =
    l.nodes.items ++ map (node_at_boot l.processors) (numbers l.node (17 - l.node)) ≡ nodes_at_boot l.fn.processors
