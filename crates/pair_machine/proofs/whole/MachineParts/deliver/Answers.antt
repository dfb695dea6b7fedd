use Rattle.std.proofs.Common.{ap, subst, sym}
use Rattle.message_wires.specs.Play.{MachineState}
use Rattle.number_laws.specs.message_wires.specs.HasRoom.{WorldHasRoom}
use Rattle.pair_machine.specs.Room.{OpenersAreThere}
use Rattle.pair_machine.proofs.Room.{is-among}
use Rattle.pair_machine.proofs.whole.MachineParts.deliver.Goals as goal

pub receive-requires-clause-opener : goal.receive-requires-clause-opener
receive-requires-clause-opener c =
    subst (λ (s : MachineState). OpenersAreThere s) (sym c.self.view_is) c.requires.openers c.in-Some.packet
    (is-among c.self.inside.wires.bus c.args.k c.in-Some.packet (sym c.in-Some.ensures.packet))

pub receive-requires-clause-room : goal.receive-requires-clause-room
receive-requires-clause-room c =
    subst WorldHasRoom (ap (λ (s : MachineState). s.world) (sym c.self.view_is)) c.requires.room
