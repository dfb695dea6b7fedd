use Rattle.std.proofs.Common.{ap, subst, sym}
use Rattle.message_wires.specs.Play.{MachineState}
use Rattle.number_laws.specs.message_wires.specs.HasRoom.{WorldHasRoom}
use Rattle.pair_machine.proofs.whole.MachineParts.receive.Goals as goal

pub hand-requires-clause-room : goal.hand-requires-clause-room
hand-requires-clause-room c =
    subst WorldHasRoom (ap (λ (s : MachineState). s.world) (sym c.self.view_is)) c.requires.room
