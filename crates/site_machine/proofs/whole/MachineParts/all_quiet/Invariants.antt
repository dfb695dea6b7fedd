use Rattle.std.proofs.Common.{◌≡◌, ◌-◌}
use Rattle.std.specs.List.{list_all}
use Rattle.node.specs.packet_wires.specs.Idle.{is_quiet}
use Rattle.node.specs.packet_wires.specs.Nodes.{all_nodes, numbers}
use Rattle.site_machine.proofs.whole.MachineParts.all_quiet.Given as goal

abbrev pub invariant-loop-from : goal.invariant-loop-from
invariant-loop-from l =
    list_all (λ x. list_all (is_quiet l.self.world.stopped l.self.wires.nodes x) all_nodes)
    (numbers l.from (17 - l.from))
    ≡ list_all (λ x. list_all (is_quiet l.fn.self.world.stopped l.fn.self.wires.nodes x) all_nodes) all_nodes
