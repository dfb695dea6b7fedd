use Rattle.std.proofs.Common.{◌∙◌, ap}
use Rattle.alive_regroup.specs.Watching as watching
use Rattle.alive_regroup.specs.Watching.{changed_at}
use Rattle.event_parts.specs.packet_wires.specs.Wires.{at_end, down_at, learns}
use Rattle.event_parts.specs.Parts.{carried_out}
use Rattle.event_parts.proofs.Adds.{adds-learns}
use Rattle.event_parts.proofs.Turns.{carried-then}
use Rattle.node.proofs.wires.PacketWires.cut_off.Goals as goal

pub returns : goal.returns
returns c =
    c.mark.ensures
    ∙ ap (carried_out (learns c.args.node (changed_at c.args.processor watching.neighbour_after_down)))
    c.throw_away.ensures
    ∙ carried-then (at_end c.args.node c.args.processor (down_at c.args.node c.args.processor))
    (learns c.args.node (changed_at c.args.processor watching.neighbour_after_down))
    c.args.self.now (adds-learns c.args.node (changed_at c.args.processor watching.neighbour_after_down))
