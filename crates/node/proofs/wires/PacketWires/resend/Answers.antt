use Rattle.std.specs.Bool.{OnFalse}
use Rattle.std.proofs.Common.{ℕ, ◌≡◌, true, arith, subst, sym}
use Rattle.event_parts.specs.packet_wires.specs.Idle.{holds_nothing}
use Rattle.event_parts.specs.packet_wires.specs.Nodes.{end_at}
use Rattle.node.proofs.Quiet.{skipped-ticks}
use Rattle.node.proofs.wires.PacketWires.resend.Goals as goal

pub returns-else-holding : goal.returns-else-holding
returns-else-holding c =
    sym (skipped-ticks c.args.from 0 17 c.args.self.now (omega arith) (omega arith) (λ y least most. subst
    (λ holding. OnFalse holding ((other : ℕ) → holds_nothing (end_at c.args.self.now.nodes c.args.from other) ≡ true))
    c.if-holding.false c.requires y))
