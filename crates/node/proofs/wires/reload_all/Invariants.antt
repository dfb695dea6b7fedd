use Rattle.std.proofs.Common.{◌≡◌, ◌++◌, take, drop, map}
use Rattle.event_parts.specs.packet_wires.specs.Nodes.{node_after_reload}
use Rattle.node.proofs.wires.reload_all.Given as goal

abbrev pub invariant-loop-node : goal.invariant-loop-node
invariant-loop-node l =
    l.nodes ≡ map (node_after_reload l.processors l.loaded) (take l.node-index l.initial.nodes)
    ++ drop l.node-index l.initial.nodes
