use Rattle.std.proofs.Common.{subst}
use Rattle.schedule.specs.declared.event.Event.TheVariants as event
use Rattle.node.specs.machine_states.specs.Drives.{drives_turned}
use Rattle.node.specs.machine_states.specs.States.{Settles}
use Rattle.node.specs.packet_wires.specs.Play.{Packeted, play}
use Rattle.site_machine.proofs.Drives.{machine-settles, over_wires}
use Rattle.site_machine.proofs.whole.MachineParts.turn.Goals as goal

pub returns : goal.returns
returns c =
    let wires = c.self.inside.wires in
    let world = c.self.inside.world in
    subst (λ (s : Packeted). Settles (play s (event.Drive c.args.turn)) s c.turn.result
    (over_wires wires c.turn.new.self)) c.self.view_is
    (machine-settles wires c.args.turn.process (drives_turned c.args.turn world.world.processes world.drives) world
    c.turn.new.self c.turn.result c.turn.ensures)
