use Rattle.std.proofs.Common.{◌≡◌, ◌-◌, ◌+◌, suc, ◌∙◌, arith}
use Rattle.event_parts.specs.packet_wires.specs.Wires.{alive_at, at_end}
use Rattle.event_parts.proofs.Adds.{adds-alive}
use Rattle.node.proofs.Loops.{other-turn}
use Rattle.node.proofs.wires.PacketWires.tell_alive.Goals as goal

pub loop-to-preserved : goal.loop-to-preserved
loop-to-preserved c =
    let count : c.args.processors - c.loop-to.to ≡ suc (c.args.processors - (c.loop-to.to + 1)) =
    omega (arith, c.loop-to-test.true) in
    other-turn (λ y. at_end c.args.from y alive_at) (adds-alive c.args.from) c.args.from
    (c.args.processors - c.loop-to.to)
    (c.args.processors - (c.loop-to.to + 1)) c.loop-to.to c.loop-to.self _ count c.tell_other.ensures
    ∙ c.loop-to.invariant
