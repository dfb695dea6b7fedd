use Rattle.std.proofs.Common.{subst, sym}
use Rattle.pair_machine.specs.Room.{OpenersAreThere}
use Rattle.pair_machine.specs.Seen.{MachineStanding}
use Rattle.pair_machine.proofs.pairs.PairMachine.event.Goals as goal

pub event-requires-clause-openers : goal.event-requires-clause-openers
event-requires-clause-openers c =
    subst (λ (machine : MachineStanding). OpenersAreThere machine.state) (sym c.self.view_is) c.requires.openers
