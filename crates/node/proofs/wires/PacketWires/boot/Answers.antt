use Rattle.std.proofs.Common.{◌≡◌, ◌-◌, ◌+◌, suc, ◌∙◌, arith}
use Rattle.event_parts.specs.packet_wires.specs.Nodes.{node_at_boot}
use Rattle.node.proofs.Loops.{pushed-turn}
use Rattle.node.proofs.wires.PacketWires.boot.Goals as goal

pub loop-node-preserved : goal.loop-node-preserved
loop-node-preserved c =
    let count : 17 - c.loop-node.node ≡ suc (17 - (c.loop-node.node + 1)) = omega (arith, c.loop-node-test.true) in
    pushed-turn (node_at_boot c.args.processors) c.loop-node.nodes.items c.push.new.self.items c.in_ok-boot.field-0
    c.loop-node.node _ _
    c.in_ok-push.ensures.items c.in_ok-boot.ensures count
    ∙ c.loop-node.invariant
