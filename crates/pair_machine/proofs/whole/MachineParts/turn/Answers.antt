use Rattle.std.proofs.Common.{subst}
use Rattle.machine_states.specs.Drives.{drives_turned}
use Rattle.machine_states.specs.States.{Settles, drive_played}
use Rattle.message_wires.specs.Play.{MachineState}
use Rattle.pair_machine.proofs.Drives.{machine-settles, over_wires}
use Rattle.pair_machine.proofs.whole.MachineParts.turn.Goals as goal

pub returns : goal.returns
returns c =
    let wires = c.self.inside.wires in
    let world = c.self.inside.world in
    subst (λ (s : MachineState). Settles (drive_played c.args.turn s) s c.turn.result
    (over_wires wires c.turn.new.self)) c.self.view_is
    (machine-settles wires c.args.turn.process (drives_turned c.args.turn world.world.processes world.drives) world
    c.turn.new.self c.turn.result c.turn.ensures)
