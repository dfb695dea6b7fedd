use Rattle.std.proofs.Common.{slice_get, sym, ◌∙◌, ap}
use Rattle.alive_regroup.specs.Watching as watching
use Rattle.alive_regroup.specs.Watching.{changed_at}
use Rattle.event_parts.specs.packet_wires.specs.Wires.{learns, on_bus}
use Rattle.event_parts.specs.Parts.{carried_out}
use Rattle.node.proofs.Arrivals.{delivered-alive}
use Rattle.node.proofs.wires.PacketWires.hear_at.Goals as goal

pub returns-clause-completed : goal.returns-clause-completed
returns-clause-completed c =
    sym (delivered-alive c.args.bus c.args.position c.args.receiver c.args.sender c.args.self.now
    (slice_get (on_bus c.args.bus c.args.self.now) c.args.position) c.requires).1

pub returns-clause-after : goal.returns-clause-after
returns-clause-after c =
    c.hear.ensures
    ∙ ap (carried_out (learns c.args.receiver (changed_at c.args.sender watching.neighbour_after_alive)))
    c.take-heard.ensures.after
    ∙ (delivered-alive c.args.bus c.args.position c.args.receiver c.args.sender c.args.self.now
    (slice_get (on_bus c.args.bus c.args.self.now) c.args.position) c.requires).0
