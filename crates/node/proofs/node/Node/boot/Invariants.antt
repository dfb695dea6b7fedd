use Rattle.std.proofs.Common.{◌≡◌, ◌-◌, ◌++◌, map}
use Rattle.link_control.specs.Ends.{new_end}
use Rattle.event_parts.specs.packet_wires.specs.Nodes.{all_nodes, never_reloaded, numbers}
use Rattle.node.proofs.node.Node.boot.Given as goal

abbrev pub invariant-loop-other : goal.invariant-loop-other
invariant-loop-other l =
    l.ends.items ++ map (λ other. new_end l.me other never_reloaded) (numbers l.other (17 - l.other))
    ≡ map (λ other. new_end l.fn.me other never_reloaded) all_nodes
