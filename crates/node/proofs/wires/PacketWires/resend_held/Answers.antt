use Rattle.std.proofs.Common.{◌≡◌, ◌-◌, ◌+◌, suc, ◌∙◌, sym, arith}
use Rattle.event_parts.specs.packet_wires.specs.Wires.{at_end, tick_at}
use Rattle.event_parts.proofs.Adds.{adds-tick}
use Rattle.node.proofs.Loops.{each-turn}
use Rattle.node.proofs.Quiet.{skipped-ticks}
use Rattle.node.proofs.wires.PacketWires.resend_held.Goals as goal

pub loop-to-preserved : goal.loop-to-preserved
loop-to-preserved c =
    let count : 17 - c.in-Some.to ≡ suc (17 - (c.in-Some.to + 1)) = omega (arith, c.in-Some.ensures.held.1) in (
      each-turn (λ y. at_end c.args.from y (tick_at c.args.from y)) (adds-tick c.args.from) (17 - c.in-Some.to)
          (17 - (c.in-Some.to + 1)) c.in-Some.to
          c.loop-to.self _ count c.resend_to.ensures
          ∙ sym (skipped-ticks c.args.from c.loop-to.next c.in-Some.to c.loop-to.self c.in-Some.ensures.held.0
          (omega (arith, c.in-Some.ensures.held.1)) c.in-Some.ensures.skipped)
          ∙ c.loop-to.invariant.0,
      omega (arith, c.in-Some.ensures.held.1),
    )

pub returns : goal.returns
returns c =
    sym (skipped-ticks c.args.from c.loop-to.next 17 c.loop-to.self c.loop-to.invariant.1 (omega arith)
    c.in_default.ensures.none)
    ∙ c.loop-to.invariant.0
