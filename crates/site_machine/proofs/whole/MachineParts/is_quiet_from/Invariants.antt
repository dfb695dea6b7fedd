use Rattle.std.proofs.Common.{◌≡◌, ◌-◌}
use Rattle.std.specs.List.{list_all}
use Rattle.node.specs.packet_wires.specs.Idle.{is_quiet}
use Rattle.node.specs.packet_wires.specs.Nodes.{all_nodes, numbers}
use Rattle.site_machine.proofs.whole.MachineParts.is_quiet_from.Given as goal

abbrev pub invariant-loop-to : goal.invariant-loop-to
invariant-loop-to l =
    list_all (is_quiet l.self.world.stopped l.self.wires.nodes l.from) (numbers l.to (17 - l.to))
    ≡ list_all (is_quiet l.fn.self.world.stopped l.fn.self.wires.nodes l.fn.from) all_nodes
