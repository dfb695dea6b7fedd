use Rattle.std.proofs.Common.{◌∙◌, ap}
use Rattle.event_parts.specs.packet_wires.specs.Wires.{checks, resends, tells_alive}
use Rattle.event_parts.specs.Parts.{carried_out}
use Rattle.event_parts.proofs.Adds.{adds-checks, adds-resends}
use Rattle.event_parts.proofs.Numbers.{can-tells-alive}
use Rattle.event_parts.proofs.Turns.{carried-then}
use Rattle.node.proofs.Loops.{can-after}
use Rattle.node.proofs.wires.PacketWires.tick.Goals as goal

pub returns : goal.returns
returns c =
    c.resend.ensures
    ∙ ap (carried_out (resends c.args.from))
    (c.in_ok-holding.ensures.after ∙ ap (carried_out (checks c.args.processors c.args.from)) c.tell_alive.ensures
    ∙ carried-then (tells_alive c.args.processors c.args.from) (checks c.args.processors c.args.from) c.args.self.now
    (adds-checks c.args.processors c.args.from))
    ∙ carried-then (λ midst. checks c.args.processors c.args.from (tells_alive c.args.processors c.args.from midst))
    (resends c.args.from) c.args.self.now
    (adds-resends c.args.from)

pub check-requires : goal.check-requires
check-requires c =
    can-after (tells_alive c.args.processors c.args.from) (can-tells-alive c.args.processors c.args.from)
    c.args.self.now _ c.requires c.tell_alive.ensures
