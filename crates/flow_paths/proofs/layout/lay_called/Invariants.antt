use Rattle.std.proofs.Common.{◌≡◌, ◌++◌, map, take}
use Rattle.flow_paths.specs.Layout.{moved_node}
use Rattle.flow_paths.proofs.layout.lay_called.Given as goal

abbrev pub invariant-loop-node : goal.invariant-loop-node
invariant-loop-node l =
    l.nodes.items ≡ l.initial.nodes.items ++ map (moved_node l.at l.after) (take l.node-index l.called)
