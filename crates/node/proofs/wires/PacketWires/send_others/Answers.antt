use Rattle.std.proofs.Common.{◌≡◌, ◌-◌, ◌+◌, ◌==◌, suc, ◌∙◌, arith}
use Rattle.event_parts.specs.packet_wires.specs.Wires.{at_end, push_at}
use Rattle.event_parts.proofs.Adds.{adds-push}
use Rattle.event_parts.proofs.Numbers.{can-push}
use Rattle.node.proofs.Loops.{can-after-if, other-turn}
use Rattle.node.proofs.wires.PacketWires.send_others.Goals as goal

pub loop-to-preserved : goal.loop-to-preserved
loop-to-preserved c =
    let count : c.args.processors - c.loop-to.to ≡ suc (c.args.processors - (c.loop-to.to + 1)) =
    omega (arith, c.loop-to-test.true) in
    record {
      sent =
          other-turn (λ y. at_end c.args.from y (push_at c.args.from y c.args.words.now))
          (λ y. adds-push c.args.from y c.args.words.now) c.args.from
          (c.args.processors - c.loop-to.to) (c.args.processors - (c.loop-to.to + 1)) c.loop-to.to c.loop-to.self _
          count c.in_ok-send_other.ensures
          ∙ c.loop-to.invariant.sent;
      numbered =
          can-after-if (at_end c.args.from c.loop-to.to (push_at c.args.from c.loop-to.to c.args.words.now))
          (can-push c.args.from c.loop-to.to c.args.words.now)
          c.loop-to.self _ c.loop-to.invariant.numbered (c.loop-to.to == c.args.from) c.in_ok-send_other.ensures;
    }
